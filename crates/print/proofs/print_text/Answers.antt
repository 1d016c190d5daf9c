-- `print::print_text` meets its contract: what is written lies in the output.
use mathlib.Core.Path.{refl}
use native.Mathlib.Omega.{arith}
use Prim.Native.Nat.{◌≤◌}
use Rattle.print.proofs.print_text.Goals as goal

pub shared_whole_as_front-hand_on : goal.shared_whole_as_front-hand_on
shared_whole_as_front-hand_on g c =
    let h : c.write-n.result ≤ g.row.N = c.requires.fits c.write-n.result _ (record { shown = _; shows = refl; left = _; met = c.write-n.ensures; leaves = refl }) in
    (h, omega (arith, c.requires.size))

pub returns : goal.returns
returns g c = (_, record { shown = _; shows = refl; left = _; met = c.write-n.ensures; leaves = refl })
