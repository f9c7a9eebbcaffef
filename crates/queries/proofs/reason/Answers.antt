use Rattle.std.proofs.Common.{◌≡◌, not, List, [], ℤ, Some, None, Ok, sym, ap, ◌∙◌, subst}
use Rattle.std.specs.Option.{option_map}
use Rattle.settings.specs.declared.Setting.{Setting}
use Rattle.tables.specs.Tables.{items}
use Rattle.laws.specs.Choices.{chosen, enough, trim}
use Rattle.laws.proofs.Why.{why_trim, why_none}
use Rattle.solver.specs.Meaning.{Meaning, stands, literal_fault, Answers}
use Rattle.solver.specs.Over.{meaning_of}
use Rattle.queries.specs.Queries.{answered, why_literals}
use Rattle.queries.proofs.Answers.{answer-tells, told}
use Rattle.queries.proofs.reason.Goals as goal

-- the answers of a first ask that said yes, or no
with_some : (m : Meaning) (ls : List ℤ) (s : Setting) → (literal_fault m ls ≡ None) × Answers m ls (Some s) → Ok None ≡ answered (literal_fault m ls) (why_literals m ls)
with_some m ls s h =
    let none = ap (option_map (λ c. chosen c ls)) (why_none m.contacts (stands m) ls (ap not (sym (answer-tells m ls (Some s) h.1)))) in
    sym (ap (λ o. answered o (why_literals m ls)) h.0 ∙ ap Ok none)

with_none : (m : Meaning) (ls : List ℤ) → (literal_fault m ls ≡ None) × Answers m ls None → Ok (Some (trim (enough m.contacts (stands m)) [] ls)) ≡ answered (literal_fault m ls) (why_literals m ls)
with_none m ls h = sym (ap (λ o. answered o (why_literals m ls)) h.0 ∙ ap Ok (why_trim m.contacts (stands m) ls (ap not h.1)))

pub returns-in-Some : goal.returns-in-Some
returns-in-Some g c =
    let m = meaning_of g.S.Solver c.args.solver.now in
    let held = items c.args.held.now in
    let h = told m c.as_slice.result.now held c.in_ok-ask.field-0 c.as_slice.ensures.entries c.in_ok-ask.ensures.answer in
    record {
      answer = with_some m held c.in-Some.field-0 (h.0, subst (Answers m held) c.in-Some.is h.1);
      meaning_kept = c.ask.ensures.meaning_kept;
    }

pub trimmed-requires : goal.trimmed-requires
trimmed-requires g c =
    let m = meaning_of g.S.Solver c.args.solver.now in
    let held = items c.args.held.now in
    let h = told m c.as_slice.result.now held c.in_ok-ask.field-0 c.as_slice.ensures.entries c.in_ok-ask.ensures.answer in
    record { named = ap (λ v. literal_fault v held) c.ask.ensures.meaning_kept ∙ h.0 }

pub returns-in-None : goal.returns-in-None
returns-in-None g c =
    let m = meaning_of g.S.Solver c.args.solver.now in
    let held = items c.args.held.now in
    let h = told m c.as_slice.result.now held c.in_ok-ask.field-0 c.as_slice.ensures.entries c.in_ok-ask.ensures.answer in
    let same = c.ask.ensures.meaning_kept in
    let left : items c.trimmed.result ≡ trim (enough m.contacts (stands m)) [] held = c.trimmed.ensures.left ∙ ap (λ v. trim (enough v.contacts (stands v)) [] held) same in
    record {
      answer = ap (λ t. Ok (Some t)) left ∙ with_none m held (h.0, subst (Answers m held) c.in-None.is h.1);
      meaning_kept = c.trimmed.ensures.meaning_kept ∙ same;
    }
