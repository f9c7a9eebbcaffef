-- What the steps from a gate text to its least setting come to.
use Rattle.std.proofs.Common.{◌≡◌, ℕ, ◌-◌, ◌≤◌, min, Bool, true, false, cond, ◌&&◌, eqb, leb, List, [], length, take, Ok, Err, Result, sym, refl, ap, ◌∙◌, ap₂, arith}
use Rattle.std.proofs.lemmas.List.{take_all}
use Rattle.std.proofs.lemmas.Bool.{and_from, cond-true, eqb-true, le-leb, leb-true, false≢true}
use Rattle.faults.specs.declared.TextFault.{TextFault}
use Rattle.faults.specs.declared.SheetFault.{SheetFault}
use Rattle.faults.specs.declared.SheetFault.TheVariants.{Store, WrongContacts}
use Rattle.faults.specs.declared.StoreFault.TheVariants.{Text, Short}
use Rattle.settings.specs.Least.{least}
use Rattle.laws.proofs.Least.{least_alike}
use Rattle.solver.specs.Count.{suits}
use Rattle.solver.specs.Meaning.{stands_with}
use Rattle.sheets.specs.Sheets.{SheetMeaning, opened}
use Rattle.sheets.specs.Answers.{least_answer}
use Rattle.stores.specs.Stores.{laid}
use Rattle.aiger.specs.declared.Gate.{Gate}
use Rattle.aiger.specs.Aag.{Aag, read_aag}
use Rattle.aiger.proofs.Grammars.{reads_just}
use Rattle.aiger_load.specs.declared.Network.{Network}
use Rattle.aiger_load.specs.Loads.{network_of, loaded, gates}
use Rattle.networks.specs.Networks.{network_allows, first_gates}
use Rattle.gates.specs.declared.network_solver.GateSolver.{GateSolver}
use Rattle.gates.specs.Gates.{gate_meaning, loaded_meaning}
use Rattle.clause_texts.specs.Answer.{found}
use Rattle.clause_texts.proofs.Loaded.{front_is}
use Rattle.gate_texts.specs.Answer.{once_loaded, text_least, network_least}

-- a sheet over a cache has the meaning of the solver below the cache
pub sheet_answer : (n k output size : ℕ) (gs : List Gate) (made below : GateSolver) (p : SheetMeaning) → suits n ≡ true → k ≡ n → gate_meaning made ≡ loaded_meaning k (first_gates gs) output → below ≡ made → p ≡ opened (gate_meaning below) 1 → least_answer p size ≡ network_least n gs output size
sheet_answer n k output size gs made below p fits same meaning cached new =
    let plain : gate_meaning below ≡ loaded_meaning n (first_gates gs) output = ap gate_meaning cached ∙ meaning ∙ ap (λ k. loaded_meaning k (first_gates gs) output) same in
    ap (λ q. least_answer q size) (new ∙ ap (λ m. opened m 1) plain) ∙ sym (cond-true _ _ _ fits)

-- what loading refuses is the refusal
pub loading_refused : (n records size : ℕ) (r : Result Aag TextFault) (f : SheetFault) → Err f ≡ loaded n records r → Err f ≡ text_least n records size r
loading_refused n records size (Err e) f h = ap Err (let same : f ≡ Store (Text e) = cc in same)
loading_refused n records size (Ok c) f h = ap (λ l. once_loaded l (found size n (least n (network_allows c.gates c.output)))) h

-- a solver over the gates with nothing added and nothing asked
stands_plain : (n output : ℕ) (gs : List Gate) (x : List Bool) → stands_with (loaded_meaning n gs output) [] x ≡ network_allows gs output x
stands_plain n output gs x = trues (network_allows gs output x)
  where
    trues : (a : Bool) → ((a && true) && true) ≡ a
    trues true = refl
    trues false = refl

-- a text that was loaded: its inputs are the contacts, and it is the text's own network that is told
loaded_is : (n records : ℕ) (c : Aag) (z : Network) → Ok z ≡ loaded n records (Ok c) → (eqb n c.inputs ≡ true) × (leb (length c.gates) records ≡ true) × (z ≡ network_of c)
loaded_is n records c z = go (eqb n c.inputs) (leb (length c.gates) records) where
  go : (a b : Bool) → Ok z ≡ cond a (cond b (Ok (network_of c)) (Err (Store (Short records)))) (Err WrongContacts) → (a ≡ true) × (b ≡ true) × (z ≡ network_of c)
  go true true e = (refl, refl, cc)
  go true false e = absurd (let y : ◌≡◌ {A = Bool} false true = cc in false≢true y)
  go false b e = absurd (let y : ◌≡◌ {A = Bool} false true = cc in false≢true y)

-- and there is room for its gates
pub loaded_room : (n records : ℕ) (r : Result Aag TextFault) (z : Network) → Ok z ≡ loaded n records r → z.count ≤ records
loaded_room n records (Err e) z taken = absurd (let y : ◌≡◌ {A = Bool} false true = cc in false≢true y)
loaded_room n records (Ok c) z taken = let l = loaded_is n records c z taken in omega (arith, leb-true (length c.gates) records l.1, ap (λ y. y.count) l.2)

-- no network that was read has more gates than are taken
pub all_gates : (gs : List Gate) → length gs ≤ 2048 → first_gates gs ≡ gs
all_gates gs few = take_all (min (length gs) 2048) gs (omega arith)

pub loaded_answer : (n records room : ℕ) (text : List ℕ) (z : Network) (s gs : List Gate) → Ok z ≡ loaded n records (read_aag text) → gs ≡ take (z.count - 0) (laid (gates (read_aag text)) s) → network_least z.inputs gs z.output room ≡ text_least n records room (read_aag text)
loaded_answer n records room text z s gs = go (read_aag text) refl where
  go : (r : Result Aag TextFault) → read_aag text ≡ r → Ok z ≡ loaded n records r → gs ≡ take (z.count - 0) (laid (gates r) s) → network_least z.inputs gs z.output room ≡ text_least n records room r
  go (Err e) was taken lies = absurd (let y : ◌≡◌ {A = Bool} false true = cc in false≢true y)
  go (Ok c) was taken lies =
      let w = ((reads_just text).sound c was).well_formed in
      let l = loaded_is n records c z taken in
      let own : n ≡ c.inputs = eqb-true n c.inputs l.0 in
      let inputs : z.inputs ≡ n = ap (λ y. y.inputs) l.2 ∙ sym own in
      let output : z.output ≡ c.output = ap (λ y. y.output) l.2 in
      let count : z.count ≡ length c.gates = ap (λ y. y.count) l.2 in
      let held : gs ≡ c.gates = lies ∙ front_is c.gates s z.count count in
      let fits : suits n ≡ true = and_from _ _ (le-leb 1 n (omega (arith, w.some_input))) (le-leb n 32 (omega (arith, w.few_inputs))) in
      let same : least n (stands_with (loaded_meaning n (first_gates c.gates) c.output) []) ≡ least n (network_allows c.gates c.output) =
      least_alike n (stands_with (loaded_meaning n (first_gates c.gates) c.output) []) (network_allows c.gates c.output)
      (λ x sized. stands_plain n c.output (first_gates c.gates) x ∙ ap (λ gs. network_allows gs c.output x) (all_gates c.gates w.few_gates)) in
      ap₂ (λ k o. network_least k gs o room) inputs output ∙ ap (λ gs. network_least n gs c.output room) held ∙ cond-true _ _ _ fits
      ∙ ap (found room n) same
      ∙ ap (λ a. once_loaded a (found room n (least n (network_allows c.gates c.output)))) taken
