-- A pair of new sheets is described by the model of new sheets.
use Rattle.std.proofs.Common.{◌≡◌, [], refl}
use Rattle.solver.specs.declared.Solver.{Ghosts}
use Rattle.sheets.specs.declared.Sheet.{Sheet}
use Rattle.sheets.specs.Sheets.{sheet_meaning, New}
use Rattle.model.specs.Guarantee.{NewPair}
use Rattle.model.proofs.Whole.{guarantee_law}
use Rattle.session.specs.declared.pair.Pair.{Pair}
use Rattle.session.specs.Mirrors.{meaning_of, new_model, new_pair, Stands}

new_means : {S : Type 0} (v : Ghosts S) (x : Sheet S v) → New v x → sheet_meaning v x ≡ meaning_of (new_model (sheet_meaning v x))
new_means v x n = λ i. record {
  meaning = record { contacts = v.size x.solver; base = v.base x.solver; added = n.no_rules i; bars = x.no_bars i };
  label = x.label;
  held = n.none_held i;
  count = n.none_issued i;
}

pub beginning : {M B : Type 0} (m : Ghosts M) (b : Ghosts B) (pair : Pair M B m b) → New m pair.make → New b pair.brk → Stands m b pair (new_pair (sheet_meaning m pair.make) (sheet_meaning b pair.brk)) []
beginning m b pair n n' =
    let new : NewPair (new_pair (sheet_meaning m pair.make) (sheet_meaning b pair.brk)) = record {
      make = record { no_rules = refl; none_held = refl; none_issued = refl };
      brk = record { no_rules = refl; none_held = refl; none_issued = refl };
    } in
    record {
      new = new;
      guaranteed = guarantee_law (new_pair (sheet_meaning m pair.make) (sheet_meaning b pair.brk)) [] new tt;
      here = record { make_means = new_means m pair.make n; break_means = new_means b pair.brk n'; make_named = tt; break_named = tt };
    }
