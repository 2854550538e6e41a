use Rattle.std.proofs.Common.{◌≡◌, ℕ, List, Some, refl, sym, subst, subst₂}
use Rattle.syn_rows.specs.declared.Lit.{Lit}
use Rattle.syn_rows.specs.declared.Row.{Row}
use Rattle.syn_rows.specs.Rows.{row_at}
use Rattle.syn_hashed.specs.Hashed.{IsHashed}
use Rattle.syn_hashed.specs.HashedAgain.{IsHashedRow}
use Rattle.syn_hashed.specs.Joined.{literal_there}
use Rattle.syn_hashed.specs.Visiting.{visited}
use Rattle.syn_hashed.proofs.HashedAgain.{alias_row, joined_there}
use Rattle.syn_hashed.proofs.Visits.{alias_all, and_made, row_parts}
use Rattle.syn_hashed.proofs.visit.stand_in.Goals as goal

pub returns-in-Alias-clause-made : goal.returns-in-Alias-clause-made
returns-in-Alias-clause-made c =
    alias_all c.args.hashed.now.source_count c.args.rows.now c.args.literals.now c.args.hashed.now.rows.items c.args.node c.in-Alias.a c.literal_of.result c.requires.visit c.in-Alias.is c.literal_of.ensures

pub returns-in_ok-literal-in-Some : goal.returns-in_ok-literal-in-Some
returns-in_ok-literal-in-Some c =
    let rows = c.args.rows.now in
    let literals = c.args.literals.now in
    let more = c.and.new.self.rows.items in
    let made = c.in_ok-literal-in-Some.ensures in
    let (a, b, is, fa, fb) = row_parts literals (row_at rows c.args.node) c.in-Some.first c.in-Some.second (sym c.in-Some.ensures) in
    record {
      sources = made.sources;
      made =
          and_made c.args.hashed.now.source_count rows literals c.args.hashed.now.rows.items more c.args.node a b c.in-Some.first c.in-Some.second c.in_ok-literal-in-Some.literal c.requires.visit
          (subst (λ (k : ℕ). IsHashed k more) made.sources c.and.new.self.hashed) is fa fb made.grows made.few made.there made.value made.joined;
      row = subst (λ (row : Row). IsHashedRow (visited literals) more row c.in_ok-literal-in-Some.literal) (sym is) (
        c.in-Some.first,
        c.in-Some.second,
        fa,
        fb,
        subst₂ (λ (rs : List Row) (l : Lit). literal_there rs c.in-Some.first c.in-Some.second ≡ Some l) (sym made.rows) (sym made.literal)
            (joined_there c.args.hashed.now.source_count c.args.hashed.now.rows.items c.in-Some.first c.in-Some.second
            (subst₂ IsHashed made.sources made.rows c.and.new.self.hashed) c.args.hashed.now.hashed.there),
      );
      same = tt;
      ready = λ r. refl;
    }

pub returns-in-Alias-clause-row : goal.returns-in-Alias-clause-row
returns-in-Alias-clause-row c =
    alias_row c.args.literals.now c.args.hashed.now.rows.items (row_at c.args.rows.now c.args.node) c.in-Alias.a c.literal_of.result c.in-Alias.is c.literal_of.ensures
