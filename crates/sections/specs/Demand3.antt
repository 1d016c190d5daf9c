-- Demand 3, whole.
use Rattle.std.specs.Prelude.{ℕ, ◌<◌, ◌≡◌, true, List, reverse}
use Rattle.std.proofs.Math.Option.{some}
use Rattle.rules.specs.declared.Event.{Event}
use Rattle.rules.specs.declared.Counts.{Counts}
use Rattle.rules.specs.Limits.{Limits, UpToFull, allowed}
use Rattle.rules.specs.Words.{main}
use Rattle.rules.specs.Rules.{accepted, mark}
use Rattle.sections.specs.Places.{event_at, uses_or_assigns}
use Rattle.sections.specs.CriticalSections.{Entry, SerialOrder}
use Rattle.sections.specs.Sequential.{serially, times, zeros, after, given, stated}
use Rattle.sections.specs.Denials.{Denial, fit, denied, Orderly, Denies}

-- an accepted trace: the head is allowed, and no event is refused
pub record AcceptedTrace (m : Limits) (h : Counts) (events : List Event) : Type 0 where
  pub limits : UpToFull m
  pub head : allowed m h ≡ true
  pub marked : mark m h events ≡ accepted

-- What is answered about the order of an accepted trace with guards, and the list that is given with `fit`: one claim about the
-- whole list of events.
pub record Demand3 (h : Counts) (guard : ℕ → ℕ) (events : List Event) (answer : Denial) (order : List Entry) : Type 0 where
  -- It gets an order exactly when each U, A and B is made under its variable's guard, no K (or C) comes after an N (or Y) in the same section,
  -- and at the end no lock is held, no assign owed and no thread waiting.
  pub only_when : answer ≡ fit → Orderly h guard events
  pub when : Orderly h guard events → answer ≡ fit
  -- Otherwise number and line: 20 and 21 event by event, 22 last (trailer line).
  pub otherwise : (number line : ℕ) → answer ≡ denied number line → Denies h guard events number line
  -- The list is in order of each section's last K, one entry for each section.
  pub listed : answer ≡ fit → SerialOrder h events order
  -- Every use is run, and so is every assign: one section takes it.
  pub every : answer ≡ fit → (line : ℕ) (e : Event) → event_at h line events ≡ some e → uses_or_assigns e ≡ true → times line e order ≡ 1
  -- What each U is given equals the value in its line;
  pub uses : answer ≡ fit → given (serially h order events) zeros ≡ stated (serially h order events)
  -- what each variable has at the end equals its main memory after the last event.
  pub ends : answer ≡ fit → (v : ℕ) → v < h.variables → after (serially h order events) zeros v ≡ main v (reverse events)
