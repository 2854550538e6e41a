-- A list of files in which one is replaced or added.
use Rattle.std.proofs.Common.{if◌then◌else◌, inl, inr, ◌≡◌, ℕ, suc, ◌+◌, ◌<◌, not, is_some, true, false, List, [], ◌∷◌, ◌++◌, length, take, drop, set, get_or, Some, None, string_bytes, bytes_eq, refl, sym, ap, ◌∙◌, arith}
use Rattle.std.proofs.Math.Seq.{drop-cons}
use Rattle.std.proofs.lemmas.Bool.{cases_Bool, and_parts, and_from, both_ways, false_from_ne_true}
use Rattle.std.proofs.lemmas.Slice.Eq.{bytes_eq-Decides}
use Rattle.std.proofs.lemmas.List.{drop-set, map-append, take-append-drop, take-set}
use Rattle.syn_io.specs.declared.mem_files.MemFile.{MemFile}
use Rattle.syn_io.specs.NamedFiles.{all_named, named_bytes}
use Rattle.syn_io.specs.Outside.{file_at, has_distinct_names, with_file, without_file}

same_name : (name : List ℕ) → bytes_eq name name ≡ true
same_name name = (bytes_eq-Decides name name).1 refl

-- files with one replaced, as what stands before it, the new one, and what stands behind it
all_named-set : (files : List MemFile) (i : ℕ) (new : MemFile) → i < length files →
    all_named (set files i new) ≡ all_named (take i files) ++ named_bytes new ∷ all_named (drop (i + 1) files)
all_named-set files i new within =
    ap all_named (sym (take-append-drop i (set files i new)))
    ∙ map-append named_bytes (take i (set files i new)) (drop i (set files i new))
    ∙ ap (λ front. all_named front ++ all_named (drop i (set files i new))) (take-set files i new)
    ∙ ap (λ back. all_named (take i files) ++ all_named back) (drop-set files i new within)

-- the file at the first place of a name gets other bytes
pub replaced_at : (name bytes : List ℕ) (files : List MemFile) (i : ℕ) (file new : MemFile) →
    i < length files → get_or files i file ≡ file → bytes_eq (string_bytes file.name) name ≡ true →
    named_bytes new ≡ (string_bytes file.name, bytes) →
    with_file name bytes (all_named files) ≡ all_named (take i files) ++ with_file name bytes (all_named (drop i files)) →
    all_named (set files i new) ≡ with_file name bytes (all_named files)
replaced_at name bytes files i file new within is named renewed left =
    all_named-set files i new within
    ∙ ap (λ one. all_named (take i files) ++ one ∷ all_named (drop (i + 1) files)) renewed
    ∙ ap (λ back. all_named (take i files) ++ back) (sym behind)
    ∙ sym left
  where
    first : drop i files ≡ file ∷ drop (i + 1) files
    first = let next : suc i ≡ i + 1 = omega arith in drop-cons files i file within ∙ ap (λ one. one ∷ drop (suc i) files) is ∙ ap (λ n. file ∷ drop n files) next

    behind : with_file name bytes (all_named (drop i files)) ≡ (string_bytes file.name, bytes) ∷ all_named (drop (i + 1) files)
    behind =
        ap (λ rest. with_file name bytes (all_named rest)) first
        ∙ ap (λ b. if b then (string_bytes file.name, bytes) ∷ all_named (drop (i + 1) files) else named_bytes file ∷ with_file name bytes (all_named (drop (i + 1) files))) named

-- the list has the new bytes under that name
pub stored_bytes : (name bytes : List ℕ) (files : List (List ℕ × List ℕ)) → file_at name (with_file name bytes files) ≡ Some bytes
stored_bytes name bytes [] = ap (λ b. if b then Some bytes else None) (same_name name)
stored_bytes name bytes (file ∷ files) =
    elim (cases_Bool (bytes_eq file.0 name)) [
      | inl same ↦ rw same (rw same refl)
      | inr other ↦ rw other (rw other (stored_bytes name bytes files))
    ]

-- and the files of all other names as they were
pub stored_others : (name bytes : List ℕ) (files : List (List ℕ × List ℕ)) → without_file name (with_file name bytes files) ≡ without_file name files
stored_others name bytes [] = ap (λ b. if not b then (name, bytes) ∷ [] else []) (same_name name)
stored_others name bytes (file ∷ files) =
    elim (cases_Bool (bytes_eq file.0 name)) [
      | inl same ↦ rw same (rw same refl)
      | inr other ↦ rw other (rw other (ap (λ rest. file ∷ rest) (stored_others name bytes files)))
    ]

-- another name's look-up doesn't change
pub file_at_other : (name other bytes : List ℕ) (files : List (List ℕ × List ℕ)) → bytes_eq name other ≡ false →
    file_at other (with_file name bytes files) ≡ file_at other files
file_at_other name other bytes [] differ = ap (λ b. if b then Some bytes else None) differ
file_at_other name other bytes (file ∷ files) differ =
    elim (cases_Bool (bytes_eq file.0 name)) [
      | inl same ↦ let apart : bytes_eq file.0 other ≡ false = ap (λ n. bytes_eq n other) ((bytes_eq-Decides file.0 name).0 same) ∙ differ in rw same (rw apart refl)
      | inr distinct ↦ rw distinct (ap (λ rest. if bytes_eq file.0 other then Some file.1 else rest) (file_at_other name other bytes files differ))
    ]

-- names stay distinct
pub with_file_distinct : (name bytes : List ℕ) (files : List (List ℕ × List ℕ)) → has_distinct_names files ≡ true →
    has_distinct_names (with_file name bytes files) ≡ true
with_file_distinct name bytes [] distinct = refl
with_file_distinct name bytes (file ∷ files) distinct =
    let parts = and_parts (not (is_some (file_at file.0 files))) (has_distinct_names files) distinct in
    elim (cases_Bool (bytes_eq file.0 name)) [
      | inl same ↦ rw same distinct
      | inr other ↦ rw other (and_from (not (is_some (file_at file.0 (with_file name bytes files)))) (has_distinct_names (with_file name bytes files)) (ap (λ found. not (is_some found)) (file_at_other name file.0 bytes files (apart other)) ∙ parts.0) (with_file_distinct name bytes files parts.1))
    ]
  where
    apart : bytes_eq file.0 name ≡ false → bytes_eq name file.0 ≡ false
    apart other = false_from_ne_true (bytes_eq name file.0) (λ same. both_ways (bytes_eq file.0 name) other (ap (λ n. bytes_eq n name) (sym ((bytes_eq-Decides name file.0).0 same)) ∙ same_name name))
