-- The earliest list of n Bools that passes a test, and whether there is one.
use Rattle.std.specs.Prelude.{ℕ, zero, suc, Bool, true, false, cond, List, [], ◌∷◌, is_some, Some, None, Option}
use Rattle.std.specs.Option.{option_map, option_or}

-- open is tried before closed, contact by contact, so that the earliest is found first
unfoldable pub least : ℕ → (List Bool → Bool) → Option (List Bool)
least zero p = cond (p []) (Some []) None
least (suc n) p =
    let opened = option_map (λ x. false ∷ x) (least n (λ x. p (false ∷ x))) in
    let closed = option_map (λ x. true ∷ x) (least n (λ x. p (true ∷ x))) in
    option_or opened closed

abbrev pub some : ℕ → (List Bool → Bool) → Bool
some n p = is_some (least n p)
