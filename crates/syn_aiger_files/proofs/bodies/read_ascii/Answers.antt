use Rattle.std.proofs.Common.{◌≤◌, ℕ, List, [], length, ◌+◌, ◌*◌, ◌-◌, option_map, Option, Err, IfSome, ap, sym, subst, ◌∙◌, arith, inr, true, Bor}
use Rattle.syn_aiger_files.specs.declared.fault.AigFault.{AigFault}
use Rattle.syn_aiger_files.specs.declared.fault.AigFault.TheVariants as faults
use Rattle.syn_aiger_files.specs.Gathered.{Lists, body_by, gathered, lists_of}
use Rattle.syn_aiger_files.specs.Parts.{Part, defined_by, parts_of, wanted_by}
use Rattle.syn_aiger_files.specs.Seen.{AreSeen}
use Rattle.syn_aiger_files.proofs.Gathering.{ascii_count, ends_there, fault_there, goes_on, text_missed}
use Rattle.syn_aiger_files.proofs.bodies.read_ascii.Goals as goal

pub loop-k-init : goal.loop-k-init
loop-k-init c = record {
  within = c.requires.within;
  left = ([], (λ n. c.new-defined.ensures n, ap (λ (l : Lists). gathered l (parts_of c.args.total (2 * c.args.h.now.variables + 1) [] (wanted_by true c.args.h.now) c.args.bytes.now)) c.new-body.ensures));
}

pub loop-k-preserved : goal.loop-k-preserved
loop-k-preserved c =
    let inv = c.loop-k.invariant.left in
    let t = c.in_ok-part.ensures.taken inv.0 inv.1.0 in
    let e = ap (option_map (λ (g : Part × Bor (List ℕ)). (g.0, g.1.now))) (sym c.in-Some.is) ∙ t.0 in
    let seen = subst (λ (o : Option (Part × Bor (List ℕ))). IfSome o (λ (g : Part × Bor (List ℕ)). AreSeen c.take_line.new.defined (defined_by inv.0 g.0))) c.in-Some.is t.1 in
    let less : length c.in-Some.behind.now ≤ length c.loop-k.rest.now = subst (λ (o : Option (Part × Bor (List ℕ))). IfSome o (λ (g : Part × Bor (List ℕ)). length g.1.now ≤ length c.loop-k.rest.now)) c.in-Some.is c.in_ok-part.ensures.within in
    record {
      within = omega (arith, c.loop-k.invariant.within);
      left = (
        defined_by inv.0 c.in-Some.part,
        (
          seen,
          goes_on c.args.total (2 * c.args.h.now.variables + 1) inv.0 (wanted_by true c.args.h.now) c.loop-k.k c.loop-k.rest.now (lists_of c.loop-k.body) (body_by true c.args.h.now c.args.total c.args.bytes.now) inv.1.1
              c.wanted_in_ascii-wanted.result c.in-Some.behind.now c.in-Some.part (lists_of c.add.new.self) c.wanted_in_ascii-wanted.ensures.next e c.in_ok-add.ensures,
        ),
      );
    }

pub returns-clause-body : goal.returns-clause-body
returns-clause-body c =
    let inv = c.loop-k.invariant.left in
    let n = ascii_count c.args.h.now in
    ends_there c.args.total (2 * c.args.h.now.variables + 1) inv.0 (wanted_by true c.args.h.now) c.loop-k.k c.loop-k.rest.now (lists_of c.loop-k.body) (body_by true c.args.h.now c.args.total c.args.bytes.now) inv.1.1 (omega arith)

pub returns-in_default-clause-fault : goal.returns-in_default-clause-fault
returns-in_default-clause-fault c =
    let inv = c.loop-k.invariant.left in
    let t = c.in_ok-part.ensures.taken inv.0 inv.1.0 in
    let e = ap (option_map (λ (g : Part × Bor (List ℕ)). (g.0, g.1.now))) (sym c.in_default.is) ∙ t.0 in
    inr (fault_there c.args.total (2 * c.args.h.now.variables + 1) inv.0 (wanted_by true c.args.h.now) c.loop-k.k c.loop-k.rest.now (lists_of c.loop-k.body) (body_by true c.args.h.now c.args.total c.args.bytes.now) inv.1.1 c.wanted_in_ascii-wanted.result c.wanted_in_ascii-wanted.ensures.next e
    ∙ ap (λ (f : AigFault). Err f) (text_missed c.wanted_in_ascii-wanted.result (c.args.total - length c.loop-k.rest.now) c.wanted_in_ascii-wanted.ensures.text ∙ ap (λ (at : ℕ). faults.Line at) (sym c.place.ensures)))
