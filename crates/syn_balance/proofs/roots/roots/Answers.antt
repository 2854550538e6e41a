use Rattle.std.proofs.Common.{List, Bool, false, length, sym, ap, subst, arith}
use Rattle.std.proofs.lemmas.List.{take_at, length-replicate}
use Rattle.syn_balance.specs.Roots.{HasRoots}
use Rattle.syn_balance.proofs.roots.roots.Goals as goal

pub returns : goal.returns
returns c =
    subst (λ (m : List Bool). HasRoots c.args.rows.now c.args.observed.now m)
    (sym (take_at c.mark_all.new.marks _ c.in_ok-marks.marks.len (omega (arith, c.mark_all.ensures.all, ap length c.in_ok-marks.ensures, length-replicate (length c.args.rows.now) false, c.as_mut_slice-2.ensures.len)))) c.mark_all.ensures
