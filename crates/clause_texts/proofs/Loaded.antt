-- What the steps from a text to the least setting of its first variables come to.
use Rattle.std.proofs.Common.{◌≡◌, ℕ, ◌-◌, Bool, true, false, cond, ◌&&◌, leb, List, [], ◌++◌, map, length, take, drop, ℤ, Ok, Err, Result, sym, refl, ap, ◌∙◌, ap₂, le_refl, arith}
use Rattle.std.proofs.lemmas.List.{length-map, take-append-le, take_all}
use Rattle.std.proofs.lemmas.Bool.{and_parts, and_from, cond-true, leb-true, le-leb, false≢true}
use Rattle.faults.specs.declared.TextFault.{TextFault}
use Rattle.faults.specs.declared.SheetFault.{SheetFault}
use Rattle.faults.specs.declared.SheetFault.TheVariants.{Store, WrongContacts}
use Rattle.faults.specs.declared.StoreFault.TheVariants.{Text, Short}
use Rattle.literals.specs.declared.LiteralSet.{LiteralSet}
use Rattle.literals.specs.Literals.{set_of}
use Rattle.settings.specs.Settings.{all_met}
use Rattle.settings.specs.Least.{least, some}
use Rattle.laws.specs.Texts.{text_allows}
use Rattle.laws.proofs.Least.{least_alike}
use Rattle.solver.specs.Meaning.{stands_with}
use Rattle.sheets.specs.Sheets.{SheetMeaning, opened}
use Rattle.sheets.specs.Answers.{least_answer, told}
use Rattle.clauses.specs.declared.ClauseSolver.{ClauseSolver}
use Rattle.clauses.specs.Clauses.{clause_meaning, loaded_meaning, suits}
use Rattle.dimacs.specs.Cnf.{Cnf, read_cnf}
use Rattle.dimacs.proofs.Grammars.{reads_just}
use Rattle.dimacs_load.specs.declared.Size.{Size}
use Rattle.dimacs_load.specs.Loads.{loaded, measured, size_of, sets, suits as fit}
use Rattle.stores.specs.Stores.{laid}
use Rattle.clause_texts.specs.Answer.{found, once_loaded, text_least, sheet_least, variables_of, told_size}
use Rattle.clause_texts.proofs.Rules.{text_law}

-- a sheet over a cache has the meaning of the solver below the cache
pub sheet_answer : (variables n k inner size : ℕ) (rules : List LiteralSet) (made below : ClauseSolver) (p : SheetMeaning) → suits variables n ≡ true → k ≡ n → inner ≡ variables - n → clause_meaning made ≡ loaded_meaning k inner rules → below ≡ made → p ≡ opened (clause_meaning below) 1 → least_answer p size ≡ sheet_least variables n rules size
sheet_answer variables n k inner size rules made below p fits same rest meaning cached new =
    let plain : clause_meaning below ≡ loaded_meaning n (variables - n) rules = ap clause_meaning cached ∙ meaning ∙ ap₂ (λ a b. loaded_meaning a b rules) same rest in
    ap (λ q. least_answer q size) (new ∙ ap (λ m. opened m 1) plain) ∙ sym (cond-true _ _ _ fits)

-- what loading refuses is the refusal
pub loading_refused : (n records size : ℕ) (r : Result Cnf TextFault) (f : SheetFault) → Err f ≡ loaded n records r → Err f ≡ text_least n records size r
loading_refused n records size (Err e) f h = ap Err (let same : f ≡ Store (Text e) = cc in same)
loading_refused n records size (Ok c) f h = ap (λ l. once_loaded l (found size n (least n (text_allows (c.vars - n) c.rules)))) h

-- a solver over the rules with nothing added and nothing asked
stands_plain : (n inner : ℕ) (rules : List LiteralSet) (x : List Bool) → stands_with (loaded_meaning n inner rules) [] x ≡ some inner (λ y. all_met rules (x ++ y))
stands_plain n inner rules x = trues (some inner (λ y. all_met rules (x ++ y)))
  where
    trues : (a : Bool) → ((a && true) && true) ≡ a
    trues true = refl
    trues false = refl

-- a text that was loaded: the room suffices, the number of contacts suits, and it is the text's own size that is told
loaded_is : (n records : ℕ) (c : Cnf) (size : Size) → Ok size ≡ loaded n records (Ok c) → (fit n c.vars ≡ true) × (size ≡ size_of c)
loaded_is n records c size = go (fit n c.vars) (leb (length c.rules) records) where
  go : (a b : Bool) → Ok size ≡ cond a (cond b (Ok (size_of c)) (Err (Store (Short records)))) (Err WrongContacts) → (a ≡ true) × (size ≡ size_of c)
  go true true e = (refl, cc)
  go true false e = absurd (let y : ◌≡◌ {A = Bool} false true = cc in false≢true y)
  go false b e = absurd (let y : ◌≡◌ {A = Bool} false true = cc in false≢true y)

-- what was laid into a store lies at its front
front : {A : Type 0} (sets s : List A) (k : ℕ) → k ≡ length sets → take k (sets ++ drop (length sets) s) ≡ sets
front sets s k e = ap (λ j. take j (sets ++ drop (length sets) s)) e ∙ take-append-le (length sets) sets (drop (length sets) s) (le_refl _) ∙ take_all (length sets) sets (le_refl _)

-- the same of the slice from the first record on
pub front_is : {A : Type 0} (sets s : List A) (k : ℕ) → k ≡ length sets → take (k - 0) (sets ++ drop (length sets) s) ≡ sets
front_is sets s k e = front sets s (k - 0) (omega arith)

pub loaded_answer : (n records room : ℕ) (text : List ℕ) (size : Size) (s rules : List LiteralSet) → Ok size ≡ loaded n records (read_cnf text) → rules ≡ take size.count (laid (sets (read_cnf text)) s) → sheet_least size.vars n rules room ≡ text_least n records room (read_cnf text)
loaded_answer n records room text size s rules = go (read_cnf text) refl where
  go : (r : Result Cnf TextFault) → read_cnf text ≡ r → Ok size ≡ loaded n records r → rules ≡ take size.count (laid (sets r) s) → sheet_least size.vars n rules room ≡ text_least n records room r
  go (Err e) was taken lies = absurd (let y : ◌≡◌ {A = Bool} false true = cc in false≢true y)
  go (Ok c) was taken lies =
      let w = ((reads_just text).sound c was).well_formed in
      let l = loaded_is n records c size taken in
      let variables : size.vars ≡ c.vars = ap (λ y. y.vars) l.1 in
      let count : size.count ≡ length (map set_of c.rules) = ap (λ y. y.count) l.1 ∙ sym (length-map c.rules set_of) in
      let held : rules ≡ map set_of c.rules = lies ∙ front (map set_of c.rules) s size.count count in
      let parts = and_parts (leb 1 n) (leb n 32 && leb n c.vars) l.0 in
      let few = and_parts (leb n 32) (leb n c.vars) parts.1 in
      let fits : suits c.vars n ≡ true = and_from _ _ (and_from _ _ parts.0 few.0) (and_from _ _ few.1 (le-leb c.vars 64 w.few_variables)) in
      let same : least n (stands_with (loaded_meaning n (c.vars - n) (map set_of c.rules)) []) ≡ least n (text_allows (c.vars - n) c.rules) =
      least_alike n (stands_with (loaded_meaning n (c.vars - n) (map set_of c.rules)) []) (text_allows (c.vars - n) c.rules)
      (λ x sized. stands_plain n (c.vars - n) (map set_of c.rules) x ∙ text_law text c was n (leb-true n c.vars few.1) x sized) in
      ap₂ (λ V rs. sheet_least V n rs room) variables held ∙ cond-true _ _ _ fits
      ∙ ap (found room n) same
      ∙ ap (λ a. once_loaded a (found room n (least n (text_allows (c.vars - n) c.rules)))) taken

-- the text's own number of variables
pub own_variables : (r : Result Cnf TextFault) (z : Size) → Ok z ≡ measured r → z.vars ≡ variables_of r
own_variables (Err e) z read = absurd (let y : ◌≡◌ {A = Bool} false true = cc in false≢true y)
own_variables (Ok c) z read = let same : z ≡ size_of c = cc in ap (λ y. y.vars) same

pub refused_size : (m : ℕ) (a : Result (List ℤ) SheetFault) (f : SheetFault) → Err f ≡ told a → Err f ≡ told_size m a
refused_size m (Ok ls) f h = absurd (let y : ◌≡◌ {A = Bool} false true = cc in false≢true y)
refused_size m (Err g) f h = ap Err (let same : f ≡ g = cc in same)
