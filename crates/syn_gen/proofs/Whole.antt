-- The generated netlist from its parts by numbers.
use Rattle.std.proofs.Common.{◌≡◌, ℕ, ◌+◌, ◌≤◌, ◌^◌, true, List, [], ◌++◌, codes, length, map, flat_map, ap, ap₂, ◌∙◌, arith}
use Rattle.std.proofs.lemmas.List.{append-nil}
use Rattle.syn_netlist.specs.declared.frames.Frame.{Frame}
use Rattle.syn_netlist.specs.declared.tables.Table as code
use Rattle.syn_netlist.specs.Frames.{frame_in}
use Rattle.syn_netlist.specs.Kept.{latch_in}
use Rattle.syn_netlist.specs.Lists as lists
use Rattle.syn_lists.specs.Numbers.{without_numbers}
use Rattle.syn_netlist.specs.Numbers.{all_below, words_at}
use Rattle.syn_netlist.specs.Tables.{table_in, tables_below}
use Rattle.syn_netlist.specs.Walk.{table_inputs, table_output}
use Rattle.syn_netlist.specs.Words.{distinct, without}
use Rattle.syn_netlist.proofs.Firsts.{table_inputs_below, table_outputs_below}
use Rattle.syn_netlist.proofs.Growing.{all_below-more}
use Rattle.syn_netlist.proofs.Places.{all_below-without, words_at-without}
use Rattle.syn_netlist.proofs.Undriven.{words_at-table_inputs, words_at-table_outputs}
use Rattle.syn_gen.specs.Generated.{generated, generated_tables, signals, unread}
use Rattle.syn_gen.specs.Signals.{AreSignals}
use Rattle.syn_gen.proofs.Checking.{names_in_order}
use Rattle.syn_gen.proofs.Named.{length-signals, signals_are, signals_distinct}

-- what a frame and tables by numbers are to a seed and a size
pub record AreParts (seed size : ℕ) (f : Frame) (ts : List code.Table) : Type 0 where
  pub names : f.names ≡ signals (16 + size)
  pub model : f.model ≡ codes "gen"
  pub inputs : words_at f.names f.inputs ≡ signals 16
  pub clocks : f.clocks ≡ []
  pub outputs : words_at f.names f.outputs ≡ unread (map (table_in f.names) ts)
  pub latches : f.latches ≡ []
  pub tables : (names : List (List ℕ)) → AreSignals (16 + size) names → map (table_in names) ts ≡ generated_tables seed size

tables_are : (seed size : ℕ) (f : Frame) (tables : List code.Table) → AreParts seed size f tables → map (table_in f.names) tables ≡ generated_tables seed size
tables_are seed size f tables parts =
    ap (λ (names : List (List ℕ)). map (table_in names) tables) parts.names ∙ parts.tables (signals (16 + size)) (signals_are (16 + size) (16 + size) (omega arith))

frame_is : (seed size : ℕ) (f : Frame) (tables : List code.Table) → AreParts seed size f tables → frame_in f ≡ (generated seed size).frame
frame_is seed size f tables parts =
    let clocks : words_at f.names f.clocks ≡ [] = ap (words_at f.names) parts.clocks in
    let latches : map (latch_in f.names) f.latches ≡ [] = ap (map (latch_in f.names)) parts.latches in
    let outputs : words_at f.names f.outputs ≡ unread (generated_tables seed size) = parts.outputs ∙ ap unread (tables_are seed size f tables parts) in
    cc (parts.model, parts.inputs, clocks, outputs, latches)

pub netlist_is : (seed size : ℕ) (f : Frame) (tables : List code.Table) → AreParts seed size f tables → record { frame = frame_in f; tables = map (table_in f.names) tables } ≡ generated seed size
netlist_is seed size f tables parts =
    ap₂ (λ (x : lists.Frame) (ts : List lists.Table). record { frame = x; tables = ts }) (frame_is seed size f tables parts) (tables_are seed size f tables parts)

pub names_long : (seed size : ℕ) (f : Frame) (tables : List code.Table) → AreParts seed size f tables → length f.names ≡ 16 + size
names_long seed size f tables parts = ap length parts.names ∙ length-signals (16 + size)

pub below_names : (seed size : ℕ) (f : Frame) (tables : List code.Table) → AreParts seed size f tables → tables_below (16 + size) tables ≡ true → tables_below (length f.names) tables ≡ true
below_names seed size f tables parts below = ap (λ n. tables_below n tables) (names_long seed size f tables parts) ∙ below

pub defined_once : (seed size : ℕ) (f : Frame) (tables : List code.Table) → 16 + size ≤ 2 ^ 32 → AreParts seed size f tables
    → distinct (lists.sources (frame_in f) ++ map lists.output_of (map (table_in f.names) tables)) ≡ true
defined_once seed size f tables few parts =
    ap₂ (λ (x : lists.Frame) (ts : List lists.Table). distinct (lists.sources x ++ map lists.output_of ts)) (frame_is seed size f tables parts) (tables_are seed size f tables parts)
    ∙ ap (λ (l : List (List ℕ)). distinct (l ++ map lists.output_of (generated_tables seed size))) (append-nil (signals 16))
    ∙ ap distinct (names_in_order size 16 seed)
    ∙ signals_distinct (16 + size) few

-- the frame over so many signals, where the inputs are the first sixteen, and the outputs those of the tables that are not read
pub record IsFrameOf (count : ℕ) (names : List (List ℕ)) (inputs outputs : List ℕ) (ts : List code.Table) : Type 0 where
  pub many : 16 ≤ count
  pub few : count ≤ 2 ^ 32
  pub names_are : names ≡ signals count
  pub below : tables_below count ts ≡ true
  pub words : (ns : List (List ℕ)) → AreSignals 16 ns → words_at ns inputs ≡ signals 16
  pub inputs_low : all_below 16 inputs ≡ true
  pub outputs_are : outputs ≡ without_numbers (flat_map table_inputs ts) (map table_output ts)

long : (count : ℕ) (names : List (List ℕ)) (inputs outputs : List ℕ) (ts : List code.Table) → IsFrameOf count names inputs outputs ts → length names ≡ count
long count names inputs outputs ts is = ap length is.names_are ∙ length-signals count

pub inputs_below : (count : ℕ) (names : List (List ℕ)) (inputs outputs : List ℕ) (ts : List code.Table) → IsFrameOf count names inputs outputs ts → all_below (length names) inputs ≡ true
inputs_below count names inputs outputs ts is = all_below-more 16 (length names) inputs (let l = long count names inputs outputs ts is in let many = is.many in omega arith) is.inputs_low

pub outputs_below : (count : ℕ) (names : List (List ℕ)) (inputs outputs : List ℕ) (ts : List code.Table) → IsFrameOf count names inputs outputs ts → all_below (length names) outputs ≡ true
outputs_below count names inputs outputs ts is =
    ap₂ all_below (long count names inputs outputs ts is) is.outputs_are
    ∙ all_below-without count (flat_map table_inputs ts) (map table_output ts) (table_outputs_below count ts is.below)

pub inputs_words : (count : ℕ) (names : List (List ℕ)) (inputs outputs : List ℕ) (ts : List code.Table) → IsFrameOf count names inputs outputs ts → words_at names inputs ≡ signals 16
inputs_words count names inputs outputs ts is = ap (λ (ns : List (List ℕ)). words_at ns inputs) is.names_are ∙ is.words (signals count) (signals_are count 16 is.many)

pub outputs_words : (count : ℕ) (names : List (List ℕ)) (inputs outputs : List ℕ) (ts : List code.Table) → IsFrameOf count names inputs outputs ts → words_at names outputs ≡ unread (map (table_in names) ts)
outputs_words count names inputs outputs ts is =
    ap (words_at names) is.outputs_are
    ∙ words_at-without names (flat_map table_inputs ts) (map table_output ts) (ap distinct is.names_are ∙ signals_distinct count is.few)
    (ap (λ n. all_below n (flat_map table_inputs ts)) same ∙ table_inputs_below count ts is.below)
    (ap (λ n. all_below n (map table_output ts)) same ∙ table_outputs_below count ts is.below)
    ∙ ap₂ without (words_at-table_inputs names ts) (words_at-table_outputs names ts)
  where
    same : length names ≡ count
    same = long count names inputs outputs ts is

pub sources_once : (count : ℕ) (names : List (List ℕ)) (inputs outputs : List ℕ) (ts : List code.Table) → IsFrameOf count names inputs outputs ts → distinct (words_at names inputs ++ []) ≡ true
sources_once count names inputs outputs ts is = ap distinct (append-nil (words_at names inputs) ∙ inputs_words count names inputs outputs ts is) ∙ signals_distinct 16 (omega arith)
