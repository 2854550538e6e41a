-- Refusals, from the cause to the command that names the file; what is left to be put, step by step.
use Rattle.std.proofs.Common.{◌≡◌, ◌⊎◌, ℕ, ◌-◌, ◌≤◌, ◌<◌, List, [], ◌∷◌, ◌++◌, Option, None, Some, IfErr, Result, Ok, Err, refl, sym, ap, ◌∙◌, subst, inl, inr, arith}
use Rattle.syn_io.specs.Outside.{Disk}
use Rattle.syn_words.specs.declared.Command.{Command}
use Rattle.syn_command_files.specs.declared.LoadFault.{LoadFault}
use Rattle.syn_command_files.specs.declared.LoadFault.TheVariants as faults
use Rattle.syn_command_files.specs.declared.Unread.{Unread}
use Rattle.syn_command_files.specs.Sources.{CountsFailure, FailsAt, FailsIn, FaultIn, FileFails, FileSays, Flattens, HasText, no_memory, OpensFile, Puts, refusal_of, Refused, refused, source_in, Sources}
use Rattle.syn_command_files.proofs.Putting.{ends, goes_on, puts_fault, puts_file, puts_itself, puts_no_deeper, stops}

pub fails_in : (told : Option (List (List ℕ × List ℕ))) (name : List ℕ) (cause : LoadFault) (r : Refused) → FileFails told name cause
    → (r ≡ no_memory) ⊎ (r ≡ refused cause name) → (r ≡ no_memory) ⊎ FailsIn told name r
fails_in told name cause r fails (inl memory) = inl memory
fails_in told name cause r fails (inr is) = inr (subst (λ (x : Refused). FailsIn told name x) (sym is) (fails, refl))

pub fault_in : (told : Option (List (List ℕ × List ℕ))) (name text : List ℕ) (r : Refused) → HasText told name text
    → (r ≡ no_memory) ⊎ FaultIn name text r → (r ≡ no_memory) ⊎ FailsIn told name r
fault_in told name text r has (inl memory) = inl memory
fault_in told name text r has (inr (line, word, fault, first, is)) =
    inr (subst (λ (x : Refused). FailsIn told name x) (sym is) ((text, has, first), refl))

pub counts_told : (cause : LoadFault) (name : List ℕ) (r : Refused) (before after : Disk) → CountsFailure cause before after
    → (r ≡ no_memory) ⊎ (r ≡ refused cause name) → CountsFailure r.cause before after
counts_told cause name r before after counts (inl memory) = subst (λ (x : Refused). CountsFailure x.cause before after) (sym memory) tt
counts_told cause name r before after counts (inr is) = subst (λ (x : Refused). CountsFailure x.cause before after) (sym is) counts

-- a fault of a text is no failed call
pub fault_counts : (name text : List ℕ) (r : Refused) (before after : Disk) → (r ≡ no_memory) ⊎ FaultIn name text r → CountsFailure r.cause before after
fault_counts name text r before after (inl memory) = subst (λ (x : Refused). CountsFailure x.cause before after) (sym memory) tt
fault_counts name text r before after (inr (line, word, fault, first, is)) = subst (λ (x : Refused). CountsFailure x.cause before after) (sym is) tt

pub memory_counts : (r : Refused) (before after : Disk) → r ≡ no_memory → CountsFailure r.cause before after
memory_counts r before after memory = subst (λ (x : Refused). CountsFailure x.cause before after) (sym memory) tt

-- a call that failed later failed since
pub counts_since : (cause : LoadFault) (first before after : Disk) → first.faults ≤ before.faults → CountsFailure cause before after → CountsFailure cause first after
counts_since faults.GetFailed first before after later rose = omega (arith, later, rose)
counts_since (faults.Script fault) first before after later rose = tt
counts_since (faults.File line word fault) first before after later rose = tt
counts_since faults.ScriptTooLong first before after later rose = tt
counts_since faults.FileTooLong first before after later rose = tt
counts_since faults.TooDeep first before after later rose = tt
counts_since faults.NoMemory first before after later rose = tt

pub fails_at : (depth : ℕ) (told : Option (List (List ℕ × List ℕ))) (c : Command) (name : List ℕ) (r : Refused) → 0 < depth → source_in c ≡ Some name
    → (r ≡ no_memory) ⊎ FailsIn told name r → (r ≡ no_memory) ⊎ FailsAt depth told c r
fails_at depth told c name r deep named (inl memory) = inl memory
fails_at depth told c name r deep named (inr fails) = inr (λ before. puts_fault depth told c name before r deep named fails)

pub fails_deep : (depth : ℕ) (told : Option (List (List ℕ × List ℕ))) (c : Command) (name : List ℕ) (r : Refused) → depth ≡ 0 → source_in c ≡ Some name
    → (r ≡ no_memory) ⊎ (r ≡ refused faults.TooDeep name) → (r ≡ no_memory) ⊎ FailsAt depth told c r
fails_deep depth told c name r none named (inl memory) = inl memory
fails_deep depth told c name r none named (inr is) = inr (λ before. puts_no_deeper depth told c name before r none named is)

-- Whatever those that are left come to is what all come to.
abbrev pub Left : ℕ → Option (List (List ℕ × List ℕ)) → List Command → List Command → List Command → List Command → Type 0
Left depth told all first left before = (outcome : Result (List Command) Refused) → Flattens depth told before left outcome → Flattens depth told first all outcome

pub left_itself : (depth : ℕ) (told : Option (List (List ℕ × List ℕ))) (all first left before rest after : List Command) (c : Command)
    → Left depth told all first left before → left ≡ c ∷ rest → source_in c ≡ None → after ≡ before ++ c ∷ [] → Left depth told all first rest after
left_itself depth told all first left before rest after c so_far is none put = λ outcome more.
    so_far outcome (goes_on (Sources depth told) left rest c before after outcome is (puts_itself (Sources depth told) c before after none put) more)

opened_puts : (depth : ℕ) (told now then : Option (List (List ℕ × List ℕ))) (before said : List Command) (c : Command) (name : List ℕ) (outcome : Result (List Command) Refused)
    → now ≡ told → then ≡ now → OpensFile depth now c said name → Flattens (depth - 1) then before said outcome → Puts (Sources depth told) (source_in c) c before outcome
opened_puts depth told now then before said c name outcome kept same opens puts =
    puts_file depth told c name said before outcome opens.deep opens.named
    (subst (λ (t : Option (List (List ℕ × List ℕ))). FileSays t name said) kept opens.says)
    (subst (λ (t : Option (List (List ℕ × List ℕ))). Flattens (depth - 1) t before said outcome) (same ∙ kept) puts)

pub left_file : (depth : ℕ) (told now then : Option (List (List ℕ × List ℕ))) (all first left before rest after said : List Command) (c : Command) (name : List ℕ)
    → Left depth told all first left before → left ≡ c ∷ rest → now ≡ told → then ≡ now → OpensFile depth now c said name
    → Flattens (depth - 1) then before said (Ok after) → Left depth told all first rest after
left_file depth told now then all first left before rest after said c name so_far is kept same opens puts = λ outcome more.
    so_far outcome (goes_on (Sources depth told) left rest c before after outcome is (opened_puts depth told now then before said c name (Ok after) kept same opens puts) more)

pub refused_at : (depth : ℕ) (told now : Option (List (List ℕ × List ℕ))) (all first left before rest : List Command) (c : Command) (r : Refused)
    → Left depth told all first left before → left ≡ c ∷ rest → now ≡ told
    → (r ≡ no_memory) ⊎ FailsAt depth now c r → (r ≡ no_memory) ⊎ Flattens depth told first all (Err r)
refused_at depth told now all first left before rest c r so_far is kept (inl memory) = inl memory
refused_at depth told now all first left before rest c r so_far is kept (inr fails) =
    inr (so_far (Err r) (stops (Sources depth told) left rest c before r is
    (subst (λ (t : Option (List (List ℕ × List ℕ))). Puts (Sources depth t) (source_in c) c before (Err r)) kept (fails before))))

pub refused_in : (depth : ℕ) (told now then : Option (List (List ℕ × List ℕ))) (all first left before rest said : List Command) (c : Command) (name : List ℕ) (r : Refused)
    → Left depth told all first left before → left ≡ c ∷ rest → now ≡ told → then ≡ now → OpensFile depth now c said name
    → (r ≡ no_memory) ⊎ Flattens (depth - 1) then before said (Err r) → (r ≡ no_memory) ⊎ Flattens depth told first all (Err r)
refused_in depth told now then all first left before rest said c name r so_far is kept same opens (inl memory) = inl memory
refused_in depth told now then all first left before rest said c name r so_far is kept same opens (inr puts) =
    inr (so_far (Err r) (stops (Sources depth told) left rest c before r is (opened_puts depth told now then before said c name (Err r) kept same opens puts)))

pub all_put : (depth : ℕ) (told : Option (List (List ℕ × List ℕ))) (all first left before : List Command) → Left depth told all first left before → left ≡ [] → Flattens depth told first all (Ok before)
all_put depth told all first left before so_far none = so_far (Ok before) (ends (Sources depth told) left before none)

-- the same of a refusal that is passed on
pub passed_on : {T : Type 0} (depth : ℕ) (told : Option (List (List ℕ × List ℕ))) (all first : List Command) (r : Result T Unread) (y e : Unread) → r ≡ Err y → y ≡ e
    → (refusal_of e ≡ no_memory) ⊎ Flattens depth told first all (Err (refusal_of e))
    → IfErr r (λ unread. (refusal_of unread ≡ no_memory) ⊎ Flattens depth told first all (Err (refusal_of unread)))
passed_on depth told all first r y e p q refused =
    subst (λ (s : Result _ Unread). IfErr s (λ unread. (refusal_of unread ≡ no_memory) ⊎ Flattens depth told first all (Err (refusal_of unread))))
    (sym (p ∙ ap (λ (u : Unread). Err u) q)) refused
