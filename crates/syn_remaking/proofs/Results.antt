-- From facts of a result to others.
use Rattle.std.proofs.Common.{Result, Ok, Err, IfOk, OnOk}

pub OnOk-of : {T E : Type 0} {P : Type 0} (r : Result T E) → P → OnOk r P
OnOk-of (Ok x) h = h
OnOk-of (Err e) h = tt

pub both_ok : {T E : Type 0} {P Q S : T → Type 0} (r : Result T E) → ((x : T) → P x → Q x → S x) → IfOk r P → IfOk r Q → IfOk r S
both_ok (Ok x) f p q = f x p q
both_ok (Err e) f p q = p
