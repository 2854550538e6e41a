use Rattle.std.proofs.Common.{refl, subst, sym, arith}
use Rattle.syn_table.specs.declared.Seat.{Seat}
use Rattle.syn_pool.specs.Working.{HasSwept}
use Rattle.syn_pool.proofs.Works.{swept_both, swept_none}
use Rattle.syn_pool.proofs.rounds.worker_threads.+shares.Goals as goal

pub returns : goal.returns
returns g t c =
    swept_both c.args.shared_state.now.shared c.args.shared_state.now.zero_gain c.args.waiting.seat c.split.new.seat c.in-Ok.other c.join-second.result.1.seat c.join-second.result.0.seat c.joined.result.seat
    c.join-second.result.1.report c.join-second.result.0.report c.joined.result.report
    (let some = c.requires.numbers in omega (arith, some))
    c.in-Ok.ensures.left c.in-Ok.ensures.new c.join-second.ensures.second c.join-second.ensures.first
    c.joined.ensures.table c.joined.ensures.seat c.joined.ensures.sum.0 c.joined.ensures.sum.1 c.joined.ensures.gained c.joined.ensures.done

pub returns-in_default : goal.returns-in_default
returns-in_default g t c =
    subst (λ (s : Seat). HasSwept c.args.shared_state.now.shared c.args.shared_state.now.zero_gain c.args.waiting.seat s c.no_work.result.report) (sym c.no_work.ensures.seat)
    (swept_none c.args.shared_state.now.shared c.args.shared_state.now.zero_gain c.args.waiting.seat c.args.waiting.seat c.no_work.result.report c.requires.table c.requires.rest refl c.no_work.ensures.done c.no_work.ensures.gained)

pub returns-in_default-split : goal.returns-in_default-split
returns-in_default-split g t c =
    subst (λ (s : Seat). HasSwept c.args.shared_state.now.shared c.args.shared_state.now.zero_gain c.args.waiting.seat s c.no_work-in_default-split.result.report) (sym c.no_work-in_default-split.ensures.seat)
    (swept_none c.args.shared_state.now.shared c.args.shared_state.now.zero_gain c.args.waiting.seat c.split.new.seat c.no_work-in_default-split.result.report c.split.ensures.table c.requires.rest c.in_default-split.ensures.refused
    c.no_work-in_default-split.ensures.done c.no_work-in_default-split.ensures.gained)
