-- What an answer names, handed on.
use Rattle.std.proofs.Common.{◌≡◌, sym, ap, ◌∙◌, subst, Option, Some, None, Result, Ok, Err, IfErr, IfSome, OnOk}
use Rattle.syn_reader.specs.declared.ReadFault.{ReadFault}
use Rattle.syn_reader.specs.Causes.{fault_in}
use Rattle.syn_reader.specs.Faults.{Fault}

abbrev pub Names : (Fault → Type 0) → ReadFault → Type 0
Names P e = IfSome (fault_in e) P

named : (o : Option Fault) (P Q : Fault → Type 0) → ((f : Fault) → P f → Q f) → IfSome o P → IfSome o Q
named None P Q g h = tt
named (Some f) P Q g h = g f h

pub passes_fault : {T : Type 0} (r : Result T ReadFault) (y e : ReadFault) (P Q : Fault → Type 0) → r ≡ Err y → y ≡ e → ((f : Fault) → P f → Q f) → IfSome (fault_in e) P → IfErr r (λ x. IfSome (fault_in x) Q)
passes_fault r y e P Q a b g h = subst (λ q. IfErr q (λ x. IfSome (fault_in x) Q)) (sym (a ∙ ap Err b)) (named (fault_in e) P Q g h)

pub hands_fault : {T : Type 0} (r : Result T ReadFault) (P Q : Fault → Type 0) → ((f : Fault) → P f → Q f) → IfErr r (λ x. IfSome (fault_in x) P) → IfErr r (λ x. IfSome (fault_in x) Q)
hands_fault (Ok v) P Q g h = tt
hands_fault (Err e) P Q g h = named (fault_in e) P Q g h

pub hands_ok : {T E : Type 0} (r : Result T E) (P Q : Type 0) → (P → Q) → OnOk r P → OnOk r Q
hands_ok (Ok v) P Q g h = g h
hands_ok (Err e) P Q g h = tt

pub hands_two : {T E : Type 0} (r : Result T E) (P Q R : Type 0) → (P → Q → R) → OnOk r P → OnOk r Q → OnOk r R
hands_two (Ok v) P Q R g h i = g h i
hands_two (Err e) P Q R g h i = tt

pub hands_four : {T E : Type 0} (r : Result T E) (P Q R S V : Type 0) → (P → Q → R → S → V) → OnOk r P → OnOk r Q → OnOk r R → OnOk r S → OnOk r V
hands_four (Ok v) P Q R S V g h i j k = g h i j k
hands_four (Err e) P Q R S V g h i j k = tt
