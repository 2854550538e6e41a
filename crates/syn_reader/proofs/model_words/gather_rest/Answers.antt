use Rattle.std.proofs.Common.{◌≡◌, [], List, ℕ, Some, sym, ap, ◌∙◌, subst, arith}
use Rattle.std.proofs.lemmas.Result.{err_from_is_err_and}
use Rattle.syn_reader.specs.Faults.{Fault}
use Rattle.syn_reader.specs.LineFaults.{first_fault_of_lines}
use Rattle.syn_reader.specs.Statements.{Statement}
use Rattle.syn_reader.specs.ModelFaults.{model_checks}
use Rattle.syn_reader.specs.Gathers.{row_total}
use Rattle.syn_reader.specs.Owned.{HasGathered, own}
use Rattle.syn_reader.specs.Parted.{words_of}
use Rattle.syn_reader.proofs.FaultLaws.{passes_fault}
use Rattle.syn_reader.proofs.Owning.{rows_own, rows_words}
use Rattle.syn_reader.proofs.model_words.gather_rest.Goals as goal

pub add-requires-clause-rows : goal.add-requires-clause-rows
add-requires-clause-rows c =
    let many = c.args.many in
    let left = c.next_of_model.new.statements in
    let room = c.loop-parts.invariant.room in
    let total = room.2.total in
    let some = ap words_of c.in-Some.ensures.some in
    let rows = rows_words (own many left) in
    let mine = ap row_total (rows_own many left) in
    let few = room.4 in
    omega (arith, total, some, rows, mine, few)

pub loop-parts-preserved : goal.loop-parts-preserved
loop-parts-preserved c =
    let before = c.loop-parts.invariant in
    let room = before.room in
    let add = c.in_ok-add.ensures in
    let next : (models : List (List ℕ)) (all : List Statement) → HasGathered models all (own c.args.many c.loop-parts.statements) c.loop-parts.gathering → HasGathered models all (own c.args.many c.add.new.statements) c.add.new.self =
    λ models all h. add.gathered models all (subst (λ (l : List Statement). HasGathered models all l c.loop-parts.gathering) c.in-Some.ensures.some h) in
    record {
      gathered = λ models all h. next models all (before.gathered models all h);
      room = (room.0, room.1, next room.0 room.1 room.2, room.3, room.4);
      left = add.left ∙ (sym c.in-Some.ensures.left ∙ before.left);
      sound = add.sound;
    }

pub returns-in_err-add-clause-fault : goal.returns-in_err-add-clause-fault
returns-in_err-add-clause-fault c =
    let p = err_from_is_err_and c.from_residual.result c.from_residual.ensures.1 in
    passes_fault c.from_residual.result p.0 c.in_err-add.field-0.0 _
    (λ (f : Fault). (models : List (List ℕ)) (all : List Statement) → HasGathered models all (own c.args.many c.args.statements.now) c.args.gathering → first_fault_of_lines (model_checks models) [] all ≡ Some f) p.1 p.2
    (λ f e models all h. e models all (subst (λ (l : List Statement). HasGathered models all l c.loop-parts.gathering) c.in-Some.ensures.some (c.loop-parts.invariant.gathered models all h))) c.in_err-add.ensures.fault
