-- Laying records into a store, one after another.
use Rattle.std.proofs.Common.{◌≡◌, ℕ, ◌≤◌, IsOk, List, [], ◌∷◌, length, take, Ok, Err, Result, sym, refl, ap, ◌∙◌, subst, append-nil, arith}
use Rattle.std.proofs.lemmas.List.{take_all}
use Rattle.faults.specs.declared.TextFault.{TextFault}
use Rattle.stores.specs.Stores.{after}

not_ok : (A : Type 0) (e : TextFault) → IsOk {T = List A} (Err e) → ⊥
not_ok A e h = cc

module _ {A : Type 0} where
  -- where a fault comes, not all can be read
  pub no_fault : (s : List A) (e : TextFault) (r whole : Result (List A) TextFault) → r ≡ Err e → after s r ≡ whole → IsOk whole → ⊥
  no_fault s e r whole h same readable = not_ok A e (subst IsOk (sym same ∙ ap (after s) h) readable)

  -- where all was read, nothing is left
  pub none_left : (s : List A) (n : ℕ) (r whole : Result (List A) TextFault) → length s ≤ n → ((xs : List A) → r ≡ Ok xs → length xs ≡ 0) → after (take n s) r ≡ whole → IsOk whole → whole ≡ Ok s
  none_left s n (Ok []) whole h none e readable = sym e ∙ ap Ok (append-nil (take n s) ∙ take_all n s h)
  none_left s n (Ok (x ∷ xs)) whole h none e readable = absurd (let more = none (x ∷ xs) refl in omega arith)
  none_left s n (Err f) whole h none e readable = absurd (no_fault (take n s) f (Err f) whole refl e readable)
