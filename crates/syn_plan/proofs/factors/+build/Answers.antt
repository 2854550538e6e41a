use Rattle.std.proofs.Common.{◌≡◌, ◌+◌, ◌<◌, ◌≤◌, Bool, true, false, List, ◌∷◌, length, sym, ap, ◌∙◌, subst, arith, ltb, cond, zero-add}
use Rattle.std.specs.List.{list_all}
use Rattle.syn_truth.specs.Truth.{value_of}
use Rattle.syn_plan.specs.declared.PLit.{PLit}
use Rattle.syn_plan.specs.Gates.{index_of}
use Rattle.syn_plan.specs.Factoring.{Built, cofactor_of, depends_on, factored_after, Covers, most_gates}
use Rattle.syn_plan.proofs.Builds.{IsBuilt}
use Rattle.syn_plan.proofs.Covered.{covers_rest, covers_cofactor, covers_same}
use Rattle.syn_plan.proofs.Factored.{is_factored}
use Rattle.syn_plan.proofs.Steps.{depends_is, factored_none, within_parts, covers_parts, factored_join, factored_skip, choice_room, factored-table}
use Rattle.syn_plan.proofs.factors.+build.Goals as goal

pub build-returns-in_default-clause-gates : goal.build-returns-in_default-clause-gates
build-returns-in_default-clause-gates t c =
    (factored_none c.args.f.vars c.args.order.now (value_of c.args.f) c.args.plan.now.gates.items c.in_default.ensures.cases).0

pub build-returns-in_default-clause-out : goal.build-returns-in_default-clause-out
build-returns-in_default-clause-out t c =
    (factored_none c.args.f.vars c.args.order.now (value_of c.args.f) c.args.plan.now.gates.items c.in_default.ensures.cases).1 c.of.result
    (c.of.ensures ∙ zero-add (cond c.is_constant.result 1 0) ∙ ap (λ b. cond b 1 0) c.is_constant.ensures)

pub build-join-requires : goal.build-join-requires
build-join-requires t c =
    let is : c.args.order.now ≡ c.in-Some.x.now ∷ c.in-Some.rest.now = c.in-Some.ensures.cases.0 in
    let depends : depends_on c.args.f.vars (value_of c.args.f) c.in-Some.x.now ≡ true = sym (depends_is c.args.f c.in-Some.x.now c.depends.result c.depends.ensures) ∙ c.if-depends.true in
    let parts : (c.in-Some.x.now < c.args.f.vars) × (list_all (λ i. ltb i c.args.f.vars) c.in-Some.rest.now ≡ true) = within_parts c.args.f.vars c.in-Some.x.now c.in-Some.rest.now c.args.order.now (value_of c.args.f) c.args.plan.now.gates.items is c.requires.within in (
      omega (arith, c.in-Some.ensures.cases.1),
      (
        c.requires.leaves,
        (
          parts.0,
          (
            parts.1,
            (
              covers_parts c.args.f.vars c.in-Some.x.now c.in-Some.rest.now c.args.order.now (value_of c.args.f) c.args.plan.now.gates.items is c.requires.covers,
              subst (λ (b : Built). length b.gates ≤ 381) (factored_join c.args.f.vars c.in-Some.x.now c.in-Some.rest.now c.args.order.now (value_of c.args.f) c.args.plan.now.gates.items is depends) c.requires.room,
            ),
          ),
        ),
      ),
    )

pub build-build-requires : goal.build-build-requires
build-build-requires t c =
    let is : c.args.order.now ≡ c.in-Some.x.now ∷ c.in-Some.rest.now = c.in-Some.ensures.cases.0 in
    let depends : depends_on c.args.f.vars (value_of c.args.f) c.in-Some.x.now ≡ false = sym (depends_is c.args.f c.in-Some.x.now c.depends.result c.depends.ensures) ∙ c.if-depends.false in
    let parts : (c.in-Some.x.now < c.args.f.vars) × (list_all (λ i. ltb i c.args.f.vars) c.in-Some.rest.now ≡ true) = within_parts c.args.f.vars c.in-Some.x.now c.in-Some.rest.now c.args.order.now (value_of c.args.f) c.args.plan.now.gates.items is c.requires.within in (
      omega (arith, c.in-Some.ensures.cases.1),
      (
        c.requires.leaves,
        (
          parts.1,
          (
            covers_rest c.args.f.vars c.in-Some.x.now c.in-Some.rest.now (value_of c.args.f)
                (covers_parts c.args.f.vars c.in-Some.x.now c.in-Some.rest.now c.args.order.now (value_of c.args.f) c.args.plan.now.gates.items is c.requires.covers) depends,
            subst (λ (b : Built). length b.gates ≤ 381) (factored_skip c.args.f.vars c.in-Some.x.now c.in-Some.rest.now c.args.order.now (value_of c.args.f) c.args.plan.now.gates.items is depends) c.requires.room,
          ),
        ),
      ),
    )

pub build-returns-then-depends-clause-gates : goal.build-returns-then-depends-clause-gates
build-returns-then-depends-clause-gates t c =
    let is : c.args.order.now ≡ c.in-Some.x.now ∷ c.in-Some.rest.now = c.in-Some.ensures.cases.0 in
    let depends : depends_on c.args.f.vars (value_of c.args.f) c.in-Some.x.now ≡ true = sym (depends_is c.args.f c.in-Some.x.now c.depends.result c.depends.ensures) ∙ c.if-depends.true in
    c.join.ensures.gates ∙ ap (λ b. b.gates) (sym (factored_join c.args.f.vars c.in-Some.x.now c.in-Some.rest.now c.args.order.now (value_of c.args.f) c.args.plan.now.gates.items is depends))

pub build-returns-then-depends-clause-out : goal.build-returns-then-depends-clause-out
build-returns-then-depends-clause-out t c =
    let is : c.args.order.now ≡ c.in-Some.x.now ∷ c.in-Some.rest.now = c.in-Some.ensures.cases.0 in
    let depends : depends_on c.args.f.vars (value_of c.args.f) c.in-Some.x.now ≡ true = sym (depends_is c.args.f c.in-Some.x.now c.depends.result c.depends.ensures) ∙ c.if-depends.true in
    c.join.ensures.out ∙ ap (λ b. b.out) (sym (factored_join c.args.f.vars c.in-Some.x.now c.in-Some.rest.now c.args.order.now (value_of c.args.f) c.args.plan.now.gates.items is depends))

pub build-returns-else-depends-clause-gates : goal.build-returns-else-depends-clause-gates
build-returns-else-depends-clause-gates t c =
    let is : c.args.order.now ≡ c.in-Some.x.now ∷ c.in-Some.rest.now = c.in-Some.ensures.cases.0 in
    let depends : depends_on c.args.f.vars (value_of c.args.f) c.in-Some.x.now ≡ false = sym (depends_is c.args.f c.in-Some.x.now c.depends.result c.depends.ensures) ∙ c.if-depends.false in
    c.build.ensures.gates ∙ ap (λ b. b.gates) (sym (factored_skip c.args.f.vars c.in-Some.x.now c.in-Some.rest.now c.args.order.now (value_of c.args.f) c.args.plan.now.gates.items is depends))

pub build-returns-else-depends-clause-out : goal.build-returns-else-depends-clause-out
build-returns-else-depends-clause-out t c =
    let is : c.args.order.now ≡ c.in-Some.x.now ∷ c.in-Some.rest.now = c.in-Some.ensures.cases.0 in
    let depends : depends_on c.args.f.vars (value_of c.args.f) c.in-Some.x.now ≡ false = sym (depends_is c.args.f c.in-Some.x.now c.depends.result c.depends.ensures) ∙ c.if-depends.false in
    c.build.ensures.out ∙ ap (λ b. b.out) (sym (factored_skip c.args.f.vars c.in-Some.x.now c.in-Some.rest.now c.args.order.now (value_of c.args.f) c.args.plan.now.gates.items is depends))

pub build_cofactor-build-requires : goal.build_cofactor-build-requires
build_cofactor-build-requires t c =
    let same : c.cofactor.result.vars ≡ c.args.f.vars = c.cofactor.ensures.vars in (
      omega arith,
      (
        c.requires.leaves ∙ sym same,
        (
          subst (λ n. list_all (λ i. ltb i n) c.args.rest.now ≡ true) (sym same) c.requires.within,
          (
            subst (λ n. Covers n c.args.rest.now (value_of c.cofactor.result)) (sym same)
                (covers_same c.args.f.vars c.args.rest.now (value_of c.cofactor.result) (cofactor_of (value_of c.args.f) c.args.x c.args.value) c.cofactor.ensures.values
                (covers_cofactor c.args.f.vars c.args.x c.args.rest.now (value_of c.args.f) c.args.value c.requires.covers)),
            subst (λ (b : Built). length b.gates ≤ 381)
                (sym (factored-table c.cofactor.result.vars c.args.f.vars c.args.rest.now (value_of c.cofactor.result) (cofactor_of (value_of c.args.f) c.args.x c.args.value) c.args.plan.now.gates.items same c.cofactor.ensures.values))
                c.requires.room,
          ),
        ),
      ),
    )

pub build_cofactor-returns-clause-gates : goal.build_cofactor-returns-clause-gates
build_cofactor-returns-clause-gates t c =
    c.build.ensures.gates
    ∙ ap (λ b. b.gates) (factored-table c.cofactor.result.vars c.args.f.vars c.args.rest.now (value_of c.cofactor.result) (cofactor_of (value_of c.args.f) c.args.x c.args.value) c.args.plan.now.gates.items c.cofactor.ensures.vars c.cofactor.ensures.values)

pub build_cofactor-returns-clause-out : goal.build_cofactor-returns-clause-out
build_cofactor-returns-clause-out t c =
    c.build.ensures.out
    ∙ ap (λ b. b.out) (factored-table c.cofactor.result.vars c.args.f.vars c.args.rest.now (value_of c.cofactor.result) (cofactor_of (value_of c.args.f) c.args.x c.args.value) c.args.plan.now.gates.items c.cofactor.ensures.vars c.cofactor.ensures.values)

pub build_cofactor-returns-clause-longer : goal.build_cofactor-returns-clause-longer
build_cofactor-returns-clause-longer t c =
    let f : List Bool → Bool = cofactor_of (value_of c.args.f) c.args.x c.args.value in
    let built : IsBuilt c.args.f.vars c.args.plan.now.gates.items (factored_after c.args.f.vars c.args.rest.now f c.args.plan.now.gates.items) f (most_gates (length c.args.rest.now)) =
    is_factored c.args.f.vars c.args.rest.now f c.args.plan.now.gates.items c.requires.within (covers_cofactor c.args.f.vars c.args.x c.args.rest.now (value_of c.args.f) c.args.value c.requires.covers) in
    let gates : c.build.new.plan.gates.items ≡ (factored_after c.args.f.vars c.args.rest.now f c.args.plan.now.gates.items).gates = build_cofactor-returns-clause-gates t c in
    subst (λ (gates : List (PLit × PLit)). length c.args.plan.now.gates.items ≤ length gates) (sym gates) built.longer

pub build_cofactor-returns-clause-there : goal.build_cofactor-returns-clause-there
build_cofactor-returns-clause-there t c =
    let f : List Bool → Bool = cofactor_of (value_of c.args.f) c.args.x c.args.value in
    let built : IsBuilt c.args.f.vars c.args.plan.now.gates.items (factored_after c.args.f.vars c.args.rest.now f c.args.plan.now.gates.items) f (most_gates (length c.args.rest.now)) =
    is_factored c.args.f.vars c.args.rest.now f c.args.plan.now.gates.items c.requires.within (covers_cofactor c.args.f.vars c.args.x c.args.rest.now (value_of c.args.f) c.args.value c.requires.covers) in
    let gates : c.build.new.plan.gates.items ≡ (factored_after c.args.f.vars c.args.rest.now f c.args.plan.now.gates.items).gates = build_cofactor-returns-clause-gates t c in
    let out : c.build.result ≡ (factored_after c.args.f.vars c.args.rest.now f c.args.plan.now.gates.items).out = build_cofactor-returns-clause-out t c in
    subst (λ (gates : List (PLit × PLit)). index_of c.build.result < 1 + c.args.f.vars + length gates) (sym gates)
    (subst (λ (l : PLit). index_of l < 1 + c.args.f.vars + length (factored_after c.args.f.vars c.args.rest.now f c.args.plan.now.gates.items).gates) (sym out) built.there)

pub join-build_cofactor-low-requires-in-Choice : goal.join-build_cofactor-low-requires-in-Choice
join-build_cofactor-low-requires-in-Choice t c = (
  omega arith,
  (
    c.requires.leaves,
    (
      c.requires.variable,
      (
        c.requires.within,
        (
          c.requires.covers,
          choice_room c.args.f.vars c.args.x c.args.rest.now (value_of c.args.f) c.args.plan.now.gates.items (sym c.of_table.ensures ∙ c.in-Choice.is) c.requires.within c.requires.covers c.requires.room,
        ),
      ),
    ),
  ),
)
