-- An event as the theory of serial orders reads it. Document 02 (i): "Y counts as an unlock of each hold given up and C as a lock of each taken again".
use Rattle.std.specs.Prelude.{ℕ, ℤ}
use Rattle.rules.specs.declared.Event.{Event}
use Rattle.rules.specs.declared.Kind.{Kind}
use Rattle.rules.specs.declared.Kind.TheVariants.{Use, Assign, Load, Store, Read, Write, Lock, Unlock, PrescientStore, PrescientAssign, Wait, Notify, Resume}
use Rattle.serial.specs.Events as S

abbrev pub viewed : ℕ → Kind → S.Event ℤ
viewed t (Use v x) = S.mem S.Use t v x
viewed t (Assign v x) = S.mem S.Assign t v x
viewed t (Load v x) = S.mem S.Load t v x
viewed t (Store v x) = S.mem S.Store t v x
viewed t (Read v x) = S.mem S.Read t v x
viewed t (Write v x) = S.mem S.Write t v x
viewed t (Lock l) = S.lock 0 t l
viewed t (Unlock l) = S.unlock 0 t l
viewed t (PrescientStore v x) = S.mem S.PrescientStore t v x
viewed t (PrescientAssign v x) = S.mem S.PrescientAssign t v x
viewed t (Wait l) = S.unlock 1 t l
viewed t (Notify l u) = S.idle t
viewed t (Resume l) = S.lock 1 t l

abbrev pub view : Event → S.Event ℤ
view e = viewed e.thread e.kind
