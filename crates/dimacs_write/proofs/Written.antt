-- What a write leaves in the buffer, and what that reads as.
use Rattle.std.proofs.Common.{◌≡◌, ℕ, ◌+◌, ◌≤◌, Bool, true, false, cond, ◌&&◌, leb, List, [], ◌∷◌, ◌++◌, map, length, take, drop, set, Ok, Err, Result, sym, refl, ap, ◌∙◌, subst, append_assoc, add-zero, zero-add, arith, length-set, take-append-drop}
use lib.ListN.{length-map}
use lib.Seq.{take-append_seam}
use Rattle.std.specs.List.{AllByRecursion as All}
use Rattle.std.proofs.ByRecursion.{All-map, All-weaker}
use Rattle.std.proofs.lemmas.List.{take_more_set, drop-set-lt}
use Rattle.std.proofs.lemmas.Bool.{and_parts, leb-true}
use Rattle.faults.specs.declared.TextFault.{TextFault}
use Rattle.faults.specs.declared.SheetFault.{SheetFault}
use Rattle.faults.specs.declared.SheetFault.TheVariants.{ShortBuffer}
use Rattle.literals.specs.declared.LiteralSet.{LiteralSet}
use Rattle.literals.specs.Literals.{set_of, listed}
use Rattle.texts.proofs.Dues.{from_ok, first_then}
use Rattle.dimacs.specs.Cnf.{Cnf, read_cnf}
use Rattle.dimacs.specs.Grammar.{WellFormed}
use Rattle.dimacs.proofs.Literals.{Named}
use Rattle.dimacs.proofs.Grammars.{reads_just}
use Rattle.dimacs_write.specs.Laws.{as_sets, Over, ReadsBack, WrittenAgain}
use Rattle.dimacs_write.specs.Puts.{over, written_over}
use Rattle.dimacs_write.specs.Texts.{set_text, some_text, written, buffer_after}
use Rattle.dimacs_write.proofs.Trips.{reads_back}
use Rattle.dimacs_write.proofs.Sets.{listed_named, same_set, over_set}
use Rattle.dimacs_write.proofs.Lengths.{no_longer}

-- where there is room, what is put stands between what stood before and behind it
over_parts : (s : List ℕ) (i : ℕ) (bs : List ℕ) → i + length bs ≤ length s → over s i bs ≡ take i s ++ (bs ++ drop (i + length bs) s)
over_parts s i [] h = sym (ap (λ j. take i s ++ drop j s) (add-zero i) ∙ take-append-drop i s)
over_parts s i (b ∷ bs) h =
    let t = set s i b in
    let size = length-set s i b in
    over_parts t (i + 1) bs (omega arith)
    ∙ ap (λ l. l ++ (bs ++ drop (i + 1 + length bs) t)) (take_more_set s i b (omega arith))
    ∙ append_assoc (take i s) (b ∷ []) (bs ++ drop (i + 1 + length bs) t)
    ∙ ap (λ l. take i s ++ (b ∷ (bs ++ l))) (drop-set-lt (i + 1 + length bs) s i b (omega arith) ∙ ap (λ j. drop j s) (omega arith))

-- an accepted write had room
granted : (b : Bool) (m n : ℕ) → ◌≡◌ {A = Result ℕ SheetFault} (Ok n) (cond b (Ok m) (Err ShortBuffer)) → (b ≡ true) × (n ≡ m)
granted true m n e = (refl, ap number e)
  where
    number : Result ℕ SheetFault → ℕ
    number (Ok x) = x
    number (Err x) = 0
granted false m n e = cc

module _ (V : ℕ) (sets : List LiteralSet) (s : List ℕ) where
  pub buffer : (r : Result ℕ SheetFault) (out : List ℕ) → r ≡ written V sets (length s) → out ≡ written_over r (set_text V sets) s → out ≡ buffer_after r (set_text V sets) s
  buffer (Err e) out a b = b
  buffer (Ok n) out a b =
      let q = granted (some_text V sets && leb (length (set_text V sets)) (length s)) (length (set_text V sets)) n a in
      let room = leb-true _ _ (and_parts (some_text V sets) _ q.0).1 in
      b ∙ over_parts s 0 (set_text V sets) (omega arith) ∙ ap (λ j. set_text V sets ++ drop j s) (zero-add (length (set_text V sets)))

  -- the sets are read back from their literals
  sets_again : (ss : List LiteralSet) → V ≤ 64 → All (Over V) ss → map set_of (map (listed V) ss) ≡ ss
  sets_again [] v h = refl
  sets_again (x ∷ ss) v h =
      let one = same_set V x v h.0 in
      let more = sets_again ss v h.1 in
      cc

  pub read_sets : 1 ≤ V → V ≤ 64 → length sets ≤ 4096 → All (Over V) sets → length (set_text V sets) ≤ 60000 → as_sets (read_cnf (set_text V sets)) ≡ Ok (V, sets)
  read_sets v₁ v₂ few h short =
      let size = length-map sets (listed V) in
      let good : WellFormed (record { vars = V; rules = map (listed V) sets }) = record {
        some_variable = v₁;
        few_variables = v₂;
        few_rules = omega arith;
        named = All-map (All (Named V)) (listed V) sets (All-weaker (Over V) (λ x. All (Named V) (listed V x)) (λ x o. listed_named V 0 V x (omega arith)) sets h);
      } in
      ap as_sets (reads_back (record { vars = V; rules = map (listed V) sets }) good short) ∙ ap (λ ss. Ok (V, ss)) (sets_again sets v₂ h)

  pub back : (r : Result ℕ SheetFault) (out : List ℕ) → r ≡ written V sets (length s) → out ≡ buffer_after r (set_text V sets) s → ReadsBack V sets r out
  back (Err e) out a b = tt
  back (Ok n) out a b = λ h short.
      let q = granted (some_text V sets && leb (length (set_text V sets)) (length s)) (length (set_text V sets)) n a in
      let some = and_parts (leb 1 V) _ (and_parts (some_text V sets) _ q.0).0 in
      let few = and_parts (leb V 64) _ some.1 in
      let same = q.1 in
      let front : take n out ≡ set_text V sets = ap (λ l. take n l) b ∙ ap (λ m. take m (set_text V sets ++ drop (length (set_text V sets)) s)) same ∙ take-append_seam (set_text V sets) (drop (length (set_text V sets)) s) in
      ap (λ l. as_sets (read_cnf l)) front
      ∙ read_sets (leb-true 1 V some.0) (leb-true V 64 few.0) (leb-true (length sets) 4096 few.1) h (omega arith)

-- the rules of a text that was read, written again
abbrev sets_of : Cnf → ℕ × List LiteralSet
sets_of c = (c.vars, map set_of c.rules)

pub again : (text : List ℕ) (a : ℕ × List LiteralSet) → as_sets (read_cnf text) ≡ Ok a → WrittenAgain a.0 a.1 text
again text a e =
    let q = first_then (read_cnf text) (λ c. Ok (sets_of c)) a e in
    let c = q.0 in
    let spelled = (reads_just text).sound c q.1 in
    let good = spelled.well_formed in
    let less = no_longer text c spelled in
    let lies : All (Over c.vars) (map set_of c.rules) = All-map (Over c.vars) set_of c.rules (All-weaker (All (Named c.vars)) (λ ls. Over c.vars (set_of ls)) (over_set c.vars) c.rules good.named) in
    let size = length-map c.rules set_of in
    let same = read_sets c.vars (map set_of c.rules) [] good.some_variable good.few_variables (omega (arith, good.few_rules)) lies (omega (arith, spelled.short)) in
    subst (λ x. WrittenAgain x.0 x.1 text) (ap (λ (y : Result (ℕ × List LiteralSet) TextFault). from_ok a y) q.2) (record { no_longer = less; same = same ∙ sym (ap as_sets q.1) })
