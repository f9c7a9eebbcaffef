-- As many rules are read as were asked for.
use Rattle.std.specs.Prelude.{◌≡◌, ℕ, zero, suc, List, [], ◌∷◌, map, length, ℤ, Ok, Result}
use Rattle.std.proofs.Common.{sym, ap, ◌∙◌}
use Rattle.std.proofs.lemmas.List.{length-map}
use Rattle.faults.specs.declared.TextFault.{TextFault}
use Rattle.literals.specs.declared.LiteralSet.{LiteralSet}
use Rattle.literals.specs.Literals.{set_of}
use Rattle.texts.specs.Lexemes.{Lexeme}
use Rattle.texts.specs.Due.{ended}
use Rattle.texts.proofs.Dues.{from_ok, first_then}
use Rattle.dimacs.specs.Cnf.{rule, body}
use Rattle.dimacs.specs.Reader.{set_body}

-- as many lines are read as were asked for
pub rules_as_many : (V n b : ℕ) (ts : List Lexeme) (ls : List (List ℤ)) → body V n b ts ≡ Ok ls → length ls ≡ n
rules_as_many V zero b ts ls e = let q = first_then (ended b ts) (λ _. Ok []) ls e in ap (λ (r : Result (List (List ℤ)) TextFault). length (from_ok [] r)) (sym q.2)
rules_as_many V (suc n) b ts ls e =
    let q = first_then (rule V ts) _ ls e in
    let s = first_then (body V n q.0.0.1 q.0.1) (λ rs. Ok (q.0.0.0 ∷ rs)) ls q.2 in
    ap (λ (r : Result (List (List ℤ)) TextFault). length (from_ok [] r)) (sym s.2) ∙ ap suc (rules_as_many V n q.0.0.1 q.0.1 s.0 s.1)

-- and as many sets
pub sets_as_many : (V n b : ℕ) (ts : List Lexeme) (rs : List LiteralSet) → set_body V n b ts ≡ Ok rs → length rs ≡ n
sets_as_many V n b ts rs e =
    let q = first_then (body V n b ts) (λ ls. Ok (map set_of ls)) rs e in
    ap (λ (r : Result (List LiteralSet) TextFault). length (from_ok [] r)) (sym q.2) ∙ length-map q.0 set_of ∙ rules_as_many V n b ts q.0 q.1
