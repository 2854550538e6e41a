-- One more statement of a model is gathered.
use Rattle.std.proofs.Common.{◌≡◌, ℕ, suc, ◌+◌, ◌≤◌, ◌||◌, Bool, true, false, if◌then◌else◌, List, [], ◌∷◌, ◌++◌, length, flat_map, refl, sym, ap, ap₂, ◌∙◌, subst, Option, Some, None, option_map, option_and_then, arith, append_assoc, append-nil}
use Rattle.std.specs.List.{list_any}
use Rattle.std.specs.Option.{option_or}
use Rattle.std.proofs.lemmas.Bool.{both_ways}
use Rattle.syn_lex.specs.Lines.{is_nil}
use Rattle.syn_netlist.specs.Words.{has_word}
use Rattle.syn_netlist.proofs.Sets.{has_word-append}
use Rattle.syn_models.specs.Models as models
use Rattle.syn_models.specs.Models.{Subcircuit, names_in}
use Rattle.syn_reader.specs.declared.Kind.{Kind}
use Rattle.syn_reader.specs.declared.Kind.TheVariants as kinds
use Rattle.syn_reader.specs.Faults.{Fault, SubcktShape, PortTwice}
use Rattle.syn_reader.specs.Statements.{Statement, is_end, rows_below}
use Rattle.syn_reader.specs.Shapes.{all_but_last}
use Rattle.syn_reader.specs.Definitions.{Definition, definitions, forbids}
use Rattle.syn_reader.specs.LineFaults.{checks, first_found, first_fault_of_lines, table_above}
use Rattle.syn_reader.specs.Heard.{statement, Begins, word_count}
use Rattle.syn_reader.specs.Marking.{by_kind, forbidden_by}
use Rattle.syn_reader.specs.Keywords.{line_fault}
use Rattle.syn_reader.specs.Rows.{below_rows, rows_fault}
use Rattle.syn_reader.proofs.LineLaws.{SameOnRows, found_inputs, found_clocks, found_outputs, found_names, found_latch, found_subckt, row_kind, rows_law_by, above_rows, rows_end, rows_definitions, rows_nil, rows_gone, rows_count}
use Rattle.syn_reader.specs.declared.model_words.Gathering.{Gathering}
use Rattle.syn_reader.specs.Computed.{said_by, said_of}
use Rattle.syn_reader.specs.ModelFaults.{is_none, model_checks}
use Rattle.syn_reader.specs.Gathers.{Gathers, forbids_in, line_total, said_in}
use Rattle.syn_reader.specs.Owned.{HasGathered}
use Rattle.syn_reader.specs.Parted.{words_in, words_of}
use Rattle.syn_reader.specs.Saying.{names_of, on_line}
use Rattle.syn_reader.specs.Subcircuits.{bound_twice, subcircuit_of}
use Rattle.syn_reader.proofs.Faultless.{found_append, more_checks}
use Rattle.syn_reader.proofs.Owning.{rows_said, rows_words}

or_nothing : (o : Option Fault) → option_or o None ≡ o
or_nothing None = refl
or_nothing (Some x) = refl

-- what is found in two steps
found_by : (models : List (List ℕ)) (above : List Statement) (s : Statement) (o : Option Fault) → first_found (more_checks models) above s ≡ None → first_found checks above s ≡ o → first_found (model_checks models) above s ≡ o
found_by models above s o m e = found_append checks (more_checks models) above s ∙ (ap₂ option_or e m ∙ or_nothing o)

pub found_first : (models : List (List ℕ)) (above : List Statement) (s : Statement) (f : Fault) → first_found checks above s ≡ Some f → first_found (model_checks models) above s ≡ Some f
found_first models above s f e = found_append checks (more_checks models) above s ∙ ap (λ o. option_or o (first_found (more_checks models) above s)) e

pub found_more : (models : List (List ℕ)) (above : List Statement) (s : Statement) (o : Option Fault) → first_found checks above s ≡ None → first_found (more_checks models) above s ≡ o → first_found (model_checks models) above s ≡ o
found_more models above s o e m = found_append checks (more_checks models) above s ∙ ap₂ option_or e m

same_on_rows : (models : List (List ℕ)) → SameOnRows (model_checks models)
same_on_rows models above s k =
    subst (λ j. first_found (model_checks models) above (statement s.line j s.words) ≡ first_found checks above (statement s.line j s.words)) (sym (row_kind s.kind k))
    (found_by models above (statement s.line kinds.Row s.words) (first_found checks above (statement s.line kinds.Row s.words)) refl refl)

-- a subcircuit
more_subckt : (models : List (List ℕ)) (above : List Statement) (line : ℕ) (words : List (List ℕ)) (o : Option Subcircuit) → subcircuit_of words ≡ o
    → first_found (more_checks models) above (statement line kinds.Subckt words) ≡ option_or (if is_none o then Some (SubcktShape line) else None) (option_or (option_map (PortTwice line) (bound_twice o)) None)
more_subckt models above line words o e = ap (λ p. option_or (if is_none p then Some (SubcktShape line) else None) (option_or (option_map (PortTwice line) (bound_twice p)) None)) e

forbidden_append : (xs ys : List Definition) (k : Kind) (w : List ℕ) → forbidden_by (xs ++ ys) k w ≡ (forbidden_by xs k w || forbidden_by ys k w)
forbidden_append [] ys k w = refl
forbidden_append (x ∷ xs) ys k w = ap (λ b. forbids x (by_kind k w) || b) (forbidden_append xs ys k w) ∙ again (forbids x (by_kind k w)) (forbidden_by xs k w) (forbidden_by ys k w)
  where
    again : (a b c : Bool) → (a || (b || c)) ≡ ((a || b) || c)
    again true b c = refl
    again false b c = refl

pub passed : (models : List (List ℕ)) (above : List Statement) (s : Statement) (ss : List Statement) → first_found (model_checks models) above s ≡ None → first_fault_of_lines (model_checks models) (s ∷ above) ss ≡ first_fault_of_lines (model_checks models) above (s ∷ ss)
passed models above s ss e = sym (ap (λ o. option_or o (first_fault_of_lines (model_checks models) (s ∷ above) ss)) e)

pub stopped : (models : List (List ℕ)) (above : List Statement) (s : Statement) (ss : List Statement) (f : Fault) → first_found (model_checks models) above s ≡ Some f → first_fault_of_lines (model_checks models) above (s ∷ ss) ≡ Some f
stopped models above s ss f e = ap (λ o. option_or o (first_fault_of_lines (model_checks models) (s ∷ above) ss)) e

names_append : (xs ys : List models.Statement) → names_of (xs ++ ys) ≡ names_of xs ++ names_of ys
names_append [] ys = refl
names_append (x ∷ xs) ys = ap (λ l. names_in x.kind ++ l) (names_append xs ys) ∙ sym (append_assoc (names_in x.kind) (names_of xs) (names_of ys))

-- what is said goes on
said_again : (old new : List models.Statement) (line : ℕ) (says : models.StatementKind) (by : List models.Statement → Option (List models.Statement)) (o : Option (List models.Statement))
    → ((rest : List models.Statement) → by rest ≡ Some (on_line line says rest)) → new ≡ old ++ on_line line says [] → option_map (λ out. new ++ out) o ≡ option_map (λ out. old ++ out) (option_and_then by o)
said_again old new line says by None h p = refl
said_again old new line says by (Some rest) h p = ap (λ (l : List models.Statement). Some (l ++ rest)) p ∙ (ap (λ (l : List models.Statement). Some l) (append_assoc old (on_line line says []) rest) ∙ sym (ap (option_map (λ out. old ++ out)) (h rest)))

-- a statement was gathered, of which rows may stand in front of the rest
step : (models : List (List ℕ)) (all above ss rest : List Statement) (kind : Kind) (line : ℕ) (words : List (List ℕ)) (old new : Gathering)
    → (h : HasGathered models all (statement line kind words ∷ ss) old) → is_end kind ≡ false → Gathers kind line words (rows_below ss) old new
    → first_fault_of_lines (model_checks models) above rest ≡ first_fault_of_lines (model_checks models) h.above (statement line kind words ∷ ss)
    → list_any (λ t. is_end t.kind) above ≡ list_any (λ t. is_end t.kind) h.above
    → is_nil above ≡ false
    → (Begins kinds.Row rest → table_above above ≡ None)
    → flat_map definitions above ≡ flat_map definitions (statement line kind words ∷ h.above)
    → said_of ss ≡ said_of rest → word_count rest ≤ word_count ss → words_in (statement line kind words) + words_of ss ≡ line_total kind words (rows_below ss) + words_of rest
    → HasGathered models all rest new
step models all above ss rest kind line words old new h end g faults ends nil closed defs said count total = record {
  above = above;
  faults = faults ∙ h.faults;
  going = ends ∙ h.going;
  begun = λ n b. both_ways (is_nil above) nil n;
  closed = closed;
  taken = λ k w. ap (λ ds. forbidden_by ds k w) defs
      ∙ (forbidden_append (definitions (statement line kind words)) (flat_map definitions h.above) k w
      ∙ (ap (λ b. forbidden_by (definitions (statement line kind words)) k w || b) (h.taken k w) ∙ sym (g.defined k w)));
  said = ap (option_map (λ out. said_in new ++ out)) (sym said) ∙ (said_again (said_in old) (said_in new) line g.says (said_by line kind words (rows_below ss)) (said_of ss) g.said g.put ∙ h.said);
  known = λ w.
      g.known w
      ∙ (ap₂ (λ a b. a || b) (h.known w) (ap (λ l. has_word l w) (sym (append-nil (names_in g.says))))
      ∙ (sym (has_word-append (names_of (said_in old)) (names_in g.says ++ []) w)
      ∙ (ap (λ l. has_word l w) (sym (names_append (said_in old) (on_line line g.says []))) ∙ ap (λ l. has_word (names_of l) w) (sym g.put))));
  count = let a = g.count in let b = h.count in let c = count in omega (arith, a, b, c);
  total = let a = g.total in let b = h.total in omega (arith, a, b, total);
  few = let a = g.count in let b = g.total in let c = h.few in omega (arith, a, b, c);
}

-- a statement without rows
plain : (models : List (List ℕ)) (all ss : List Statement) (kind : Kind) (line : ℕ) (words : List (List ℕ)) (old new : Gathering) → (h : HasGathered models all (statement line kind words ∷ ss) old) → is_end kind ≡ false
    → table_above (statement line kind words ∷ h.above) ≡ None → first_found (model_checks models) h.above (statement line kind words) ≡ None
    → words_in (statement line kind words) ≡ line_total kind words (rows_below ss) → Gathers kind line words (rows_below ss) old new → HasGathered models all ss new
plain models all ss kind line words old new h end table found total g =
    step models all (statement line kind words ∷ h.above) ss ss kind line words old new h end g
    (passed models h.above (statement line kind words) ss found)
    (ap (λ b. b || list_any (λ t. is_end t.kind) h.above) end) refl (λ b. table) refl refl (omega arith) (ap (λ n. n + words_of ss) total)

-- a fault of this line
fault : (models : List (List ℕ)) (all ss : List Statement) (kind : Kind) (line : ℕ) (words : List (List ℕ)) (old : Gathering) (f : Fault) → (h : HasGathered models all (statement line kind words ∷ ss) old)
    → first_found (model_checks models) h.above (statement line kind words) ≡ Some f → first_fault_of_lines (model_checks models) [] all ≡ Some f
fault models all ss kind line words old f h e = sym h.faults ∙ stopped models h.above (statement line kind words) ss f e

one_more : (n : ℕ) → suc n ≡ suc n + 0
one_more n = omega arith

pub inputs_step : (models : List (List ℕ)) (all ss : List Statement) (line : ℕ) (words : List (List ℕ)) (old new : Gathering) → HasGathered models all (statement line kinds.Inputs words ∷ ss) old → line_fault (forbids_in old) kinds.Inputs line words ≡ None → Gathers kinds.Inputs line words (rows_below ss) old new → HasGathered models all ss new
inputs_step models all ss line words old new h e g = plain models all ss kinds.Inputs line words old new h refl refl (found_by models h.above (statement line kinds.Inputs words) None refl (found_inputs h.above (forbids_in old) line words h.going h.taken ∙ e)) (one_more (length words)) g

pub clocks_step : (models : List (List ℕ)) (all ss : List Statement) (line : ℕ) (words : List (List ℕ)) (old new : Gathering) → HasGathered models all (statement line kinds.Clock words ∷ ss) old → line_fault (forbids_in old) kinds.Clock line words ≡ None → Gathers kinds.Clock line words (rows_below ss) old new → HasGathered models all ss new
clocks_step models all ss line words old new h e g = plain models all ss kinds.Clock line words old new h refl refl (found_by models h.above (statement line kinds.Clock words) None refl (found_clocks h.above (forbids_in old) line words h.going h.taken ∙ e)) (one_more (length words)) g

pub outputs_step : (models : List (List ℕ)) (all ss : List Statement) (line : ℕ) (words : List (List ℕ)) (old new : Gathering) → HasGathered models all (statement line kinds.Outputs words ∷ ss) old → Gathers kinds.Outputs line words (rows_below ss) old new → HasGathered models all ss new
outputs_step models all ss line words old new h g = plain models all ss kinds.Outputs line words old new h refl refl (found_by models h.above (statement line kinds.Outputs words) None refl (found_outputs h.above (forbids_in old) line words h.going h.taken)) (one_more (length words)) g

pub latch_step : (models : List (List ℕ)) (all ss : List Statement) (line : ℕ) (words : List (List ℕ)) (old new : Gathering) → HasGathered models all (statement line kinds.Latch words ∷ ss) old → line_fault (forbids_in old) kinds.Latch line words ≡ None → Gathers kinds.Latch line words (rows_below ss) old new → HasGathered models all ss new
latch_step models all ss line words old new h e g = plain models all ss kinds.Latch line words old new h refl refl (found_by models h.above (statement line kinds.Latch words) None refl (found_latch h.above (forbids_in old) line words h.going h.taken ∙ e)) (one_more (length words)) g

pub subckt_step : (models : List (List ℕ)) (all ss : List Statement) (line : ℕ) (words : List (List ℕ)) (c : Subcircuit) (old new : Gathering) → HasGathered models all (statement line kinds.Subckt words ∷ ss) old → subcircuit_of words ≡ Some c → bound_twice (Some c) ≡ None → Gathers kinds.Subckt line words (rows_below ss) old new → HasGathered models all ss new
subckt_step models all ss line words c old new h e once g =
    plain models all ss kinds.Subckt line words old new h refl refl
    (found_more models h.above (statement line kinds.Subckt words) None (found_subckt h.above line words h.going) (more_subckt models h.above line words (Some c) e ∙ ap (λ o. option_or (option_map (PortTwice line) o) None) once)) (one_more (length words)) g

-- a table with its rows
pub table_step : (models : List (List ℕ)) (all ss : List Statement) (line : ℕ) (words : List (List ℕ)) (old new : Gathering) → HasGathered models all (statement line kinds.Names words ∷ ss) old
    → line_fault (forbids_in old) kinds.Names line words ≡ None → rows_fault (length (all_but_last words)) None ss ≡ None → Gathers kinds.Names line words (rows_below ss) old new → HasGathered models all (below_rows ss) new
table_step models all ss line words old new h e rows g =
    let first = statement line kinds.Names words in
    let list = model_checks models in
    step models all (above_rows (first ∷ h.above) ss) ss (below_rows ss) kinds.Names line words old new h refl g
    (sym (sym (passed models h.above first ss (found_by models h.above first None refl (found_names h.above (forbids_in old) line words h.going h.taken ∙ e)))
    ∙ (rows_law_by list (same_on_rows models) words None (first ∷ h.above) ss refl h.going (λ v. refl) ∙ ap (λ o. option_or o (first_fault_of_lines list (above_rows (first ∷ h.above) ss) (below_rows ss))) rows)))
    (rows_end (first ∷ h.above) ss) (rows_nil (first ∷ h.above) ss refl) (λ b. absurd (rows_gone ss b)) (rows_definitions (first ∷ h.above) ss) (rows_said ss) (rows_count ss)
    (let r = rows_words ss in omega (arith, r))

pub rows_stop : (models : List (List ℕ)) (all ss : List Statement) (line : ℕ) (words : List (List ℕ)) (old : Gathering) (f : Fault) → HasGathered models all (statement line kinds.Names words ∷ ss) old
    → line_fault (forbids_in old) kinds.Names line words ≡ None → rows_fault (length (all_but_last words)) None ss ≡ Some f → first_fault_of_lines (model_checks models) [] all ≡ Some f
rows_stop models all ss line words old f h free rows =
    let first = statement line kinds.Names words in
    let list = model_checks models in
    sym h.faults
    ∙ (sym (passed models h.above first ss (found_by models h.above first None refl (found_names h.above (forbids_in old) line words h.going h.taken ∙ free)))
    ∙ (rows_law_by list (same_on_rows models) words None (first ∷ h.above) ss refl h.going (λ v. refl) ∙ ap (λ o. option_or o (first_fault_of_lines list (above_rows (first ∷ h.above) ss) (below_rows ss))) rows))

pub inputs_stop : (models : List (List ℕ)) (all ss : List Statement) (line : ℕ) (words : List (List ℕ)) (old : Gathering) (f : Fault) → HasGathered models all (statement line kinds.Inputs words ∷ ss) old → line_fault (forbids_in old) kinds.Inputs line words ≡ Some f → first_fault_of_lines (model_checks models) [] all ≡ Some f
inputs_stop models all ss line words old f h e = fault models all ss kinds.Inputs line words old f h (found_first models h.above (statement line kinds.Inputs words) f (found_inputs h.above (forbids_in old) line words h.going h.taken ∙ e))

pub clocks_stop : (models : List (List ℕ)) (all ss : List Statement) (line : ℕ) (words : List (List ℕ)) (old : Gathering) (f : Fault) → HasGathered models all (statement line kinds.Clock words ∷ ss) old → line_fault (forbids_in old) kinds.Clock line words ≡ Some f → first_fault_of_lines (model_checks models) [] all ≡ Some f
clocks_stop models all ss line words old f h e = fault models all ss kinds.Clock line words old f h (found_first models h.above (statement line kinds.Clock words) f (found_clocks h.above (forbids_in old) line words h.going h.taken ∙ e))

pub names_stop : (models : List (List ℕ)) (all ss : List Statement) (line : ℕ) (words : List (List ℕ)) (old : Gathering) (f : Fault) → HasGathered models all (statement line kinds.Names words ∷ ss) old → line_fault (forbids_in old) kinds.Names line words ≡ Some f → first_fault_of_lines (model_checks models) [] all ≡ Some f
names_stop models all ss line words old f h e = fault models all ss kinds.Names line words old f h (found_first models h.above (statement line kinds.Names words) f (found_names h.above (forbids_in old) line words h.going h.taken ∙ e))

pub latch_stop : (models : List (List ℕ)) (all ss : List Statement) (line : ℕ) (words : List (List ℕ)) (old : Gathering) (f : Fault) → HasGathered models all (statement line kinds.Latch words ∷ ss) old → line_fault (forbids_in old) kinds.Latch line words ≡ Some f → first_fault_of_lines (model_checks models) [] all ≡ Some f
latch_stop models all ss line words old f h e = fault models all ss kinds.Latch line words old f h (found_first models h.above (statement line kinds.Latch words) f (found_latch h.above (forbids_in old) line words h.going h.taken ∙ e))

pub shape_stop : (models : List (List ℕ)) (all ss : List Statement) (line : ℕ) (words : List (List ℕ)) (old : Gathering) → HasGathered models all (statement line kinds.Subckt words ∷ ss) old → subcircuit_of words ≡ None → first_fault_of_lines (model_checks models) [] all ≡ Some (SubcktShape line)
shape_stop models all ss line words old h e = fault models all ss kinds.Subckt line words old _ h (found_more models h.above (statement line kinds.Subckt words) _ (found_subckt h.above line words h.going) (more_subckt models h.above line words None e))

pub port_stop : (models : List (List ℕ)) (all ss : List Statement) (line : ℕ) (words : List (List ℕ)) (c : Subcircuit) (old : Gathering) (f : Fault) → HasGathered models all (statement line kinds.Subckt words ∷ ss) old → subcircuit_of words ≡ Some c → option_map (PortTwice line) (bound_twice (Some c)) ≡ Some f → first_fault_of_lines (model_checks models) [] all ≡ Some f
port_stop models all ss line words c old f h e t = fault models all ss kinds.Subckt line words old f h (found_more models h.above (statement line kinds.Subckt words) _ (found_subckt h.above line words h.going) (more_subckt models h.above line words (Some c) e ∙ (or_nothing _ ∙ t)))
