-- What the rules on copies, reads and stores read of the earlier events, for one thread and one variable, as one cell that each event
-- changes. X is the type of the values, z the value before any.
use Rattle.std.specs.Prelude.{ℕ, suc, ◌≤◌, ◌≡◌, Bool, true, false, ◌||◌, length, ltb}
use Rattle.std.proofs.Math.Decide.{ℕ_discrete}
use Rattle.std.proofs.Math.Logic.{ite}
use mathlib.Core.List.{List, [], ◌∷◌, ◌++◌, tail}
use Rattle.serial.specs.Events.{Kind, Use, Assign, Load, Store, Read, Write, PrescientStore, PrescientAssign, Event, lock, unlock, idle, mem}

pub record Slot (X : Type 0) : Type 0 where
  pub position : ℕ
  pub value : X

pub record Cell (X : Type 0) : Type 0 where
  pub fresh : Bool
  pub pending : Bool
  pub announced : X
  pub copy : X
  pub usable : Bool
  -- outstanding, the oldest first
  pub stores : List X
  pub reads : List (Slot X)
  -- the positions of the thread's last K and of its last write of the variable, 0 before one
  pub last_lock : ℕ
  pub last_write : ℕ

-- an event as thread t and variable v see it
pub data Act (X : Type 0) : Type 0 where
  own : Kind → X → Act X
  other : Kind → X → Act X
  locks unlocks nothing : Act X

-- an event as variable v sees it
pub data Touch (X : Type 0) : Type 0 where
  at : Kind → X → Touch X
  elsewhere : Touch X

-- U, A, B: the events that rule 20 asks to be under the guard
abbrev pub guarded : Kind → Bool
guarded Use = true
guarded Assign = true
guarded Load = false
guarded Store = false
guarded Read = false
guarded Write = false
guarded PrescientStore = false
guarded PrescientAssign = true

module _ {X : Type 0} where
  abbrev pub touch : ℕ → Event X → Touch X
  touch v (lock j t l) = elsewhere
  touch v (unlock j t l) = elsewhere
  touch v (idle t) = elsewhere
  touch v (mem k t w x) = ite {C = Touch X} (ℕ_discrete w v) (at k x) elsewhere

  abbrev pub seen_by : {A : Type 0} → Dec A → Touch X → Act X
  seen_by (yes p) (at k x) = own k x
  seen_by (no p) (at k x) = other k x
  seen_by (yes p) elsewhere = nothing
  seen_by (no p) elsewhere = nothing

  abbrev pub act : ℕ → ℕ → Event X → Act X
  act t v (lock j u l) = ite {C = Act X} (ℕ_discrete u t) locks nothing
  act t v (unlock j u l) = ite {C = Act X} (ℕ_discrete u t) unlocks nothing
  act t v (idle u) = nothing
  act t v (mem k u w x) = seen_by (ℕ_discrete u t) (touch v (mem k u w x))

  -- the position of the oldest outstanding read
  abbrev pub oldest : List (Slot X) → ℕ
  oldest [] = 0
  oldest (r ∷ rs) = r.position

  -- the cell after one act more, at position n
  unfoldable pub change : ℕ → Act X → Cell X → Cell X
  change n (own Use x) c = c
  change n (own Assign x) c = record { fresh = true; pending = c.pending; announced = c.announced; copy = x; usable = true; stores = c.stores; reads = c.reads; last_lock = c.last_lock; last_write = c.last_write }
  change n (own Load x) c = record { fresh = c.fresh; pending = c.pending; announced = c.announced; copy = x; usable = ltb c.last_lock (oldest c.reads) || c.usable; stores = c.stores; reads = tail c.reads; last_lock = c.last_lock; last_write = c.last_write }
  change n (own Store x) c = record { fresh = false; pending = c.pending; announced = c.announced; copy = c.copy; usable = c.usable; stores = c.stores ++ (x ∷ []); reads = c.reads; last_lock = c.last_lock; last_write = c.last_write }
  change n (own Read x) c = record { fresh = c.fresh; pending = c.pending; announced = c.announced; copy = c.copy; usable = c.usable; stores = c.stores; reads = c.reads ++ (record { position = n; value = x } ∷ []); last_lock = c.last_lock; last_write = c.last_write }
  change n (own Write x) c = record { fresh = c.fresh; pending = c.pending; announced = c.announced; copy = c.copy; usable = c.usable; stores = tail c.stores; reads = c.reads; last_lock = c.last_lock; last_write = n }
  change n (own PrescientStore x) c = record { fresh = c.fresh; pending = true; announced = x; copy = c.copy; usable = c.usable; stores = c.stores ++ (x ∷ []); reads = c.reads; last_lock = c.last_lock; last_write = c.last_write }
  change n (own PrescientAssign x) c = record { fresh = false; pending = false; announced = c.announced; copy = x; usable = true; stores = c.stores; reads = c.reads; last_lock = c.last_lock; last_write = c.last_write }
  change n (other k x) c = c
  change n locks c = record { fresh = c.fresh; pending = c.pending; announced = c.announced; copy = c.copy; usable = false; stores = c.stores; reads = c.reads; last_lock = n; last_write = c.last_write }
  change n unlocks c = c
  change n nothing c = c

  -- main memory after an event on the variable
  abbrev pub written : Kind → X → X → X
  written Use x m = m
  written Assign x m = m
  written Load x m = m
  written Store x m = m
  written Read x m = m
  written Write x m = x
  written PrescientStore x m = m
  written PrescientAssign x m = m

  -- the plain memory after an event on the variable: A and B set it
  abbrev pub assigned : Kind → X → X → X
  assigned Use x m = m
  assigned Assign x m = x
  assigned Load x m = m
  assigned Store x m = m
  assigned Read x m = m
  assigned Write x m = m
  assigned PrescientStore x m = m
  assigned PrescientAssign x m = x

  abbrev pub through : (Kind → X → X → X) → Touch X → X → X
  through f (at k x) m = f k x m
  through f elsewhere m = m

  abbrev pub guarded_at : Touch X → Bool
  guarded_at (at k x) = guarded k
  guarded_at elsewhere = false

  -- U, A or B of variable v
  abbrev pub uses : ℕ → Event X → Bool
  uses v e = guarded_at (touch v e)

  -- what the serial order needs of rows U to B for an act, over the cell and the variable's main memory
  abbrev pub Allowed : Act X → Cell X → X → Type 0
  Allowed (own Use x) c m = (c.usable ≡ true) × (x ≡ c.copy)
  Allowed (own Assign x) c m = Unit {0}
  Allowed (own Load x) c m = (r : Slot X) × (rs : List (Slot X)) × (c.reads ≡ r ∷ rs) × (c.pending ≡ false) × (c.fresh ≡ false) × (c.stores ≡ []) × (c.last_write ≤ r.position) × (x ≡ r.value)
  Allowed (own Store x) c m = (c.pending ≡ false) × (c.fresh ≡ true) × (c.usable ≡ true) × (x ≡ c.copy)
  Allowed (own Read x) c m = x ≡ m
  Allowed (own Write x) c m = (rest : List X) × (c.stores ≡ x ∷ rest)
  Allowed (own PrescientStore x) c m = c.pending ≡ false
  Allowed (own PrescientAssign x) c m = (c.pending ≡ true) × (x ≡ c.announced)
  Allowed (other k x) c m = Unit {0}
  Allowed locks c m = c.pending ≡ false
  Allowed unlocks c m = (c.fresh ≡ false) × (c.pending ≡ false → c.stores ≡ [])
  Allowed nothing c m = Unit {0}

  module _ (z : X) where
    abbrev pub empty : Cell X
    empty = record { fresh = false; pending = false; announced = z; copy = z; usable = false; stores = []; reads = []; last_lock = 0; last_write = 0 }

    unfoldable pub cell : ℕ → ℕ → List (Event X) → Cell X
    cell t v [] = empty
    cell t v (e ∷ es) = change (suc (length es)) (act t v e) (cell t v es)

    -- main memory of v: the value of the latest W on v, by any thread
    unfoldable pub main : ℕ → List (Event X) → X
    main v [] = z
    main v (e ∷ es) = through written (touch v e) (main v es)

    -- the plain memory of v: the value of the latest A or B on v, by any thread
    unfoldable pub plain : ℕ → List (Event X) → X
    plain v [] = z
    plain v (e ∷ es) = through assigned (touch v e) (plain v es)

    -- the rows, as far as variable v is concerned, hold along the list
    unfoldable pub Accepted : ℕ → List (Event X) → Type 0
    Accepted v [] = Unit {0}
    Accepted v (e ∷ es) = ((t : ℕ) → Allowed (act t v e) (cell t v es) (main v es)) × Accepted v es
