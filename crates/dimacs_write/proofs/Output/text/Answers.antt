use Rattle.std.proofs.Common.{[], ◌∷◌, ◌++◌, length, codes, decimal, ap, ◌∙◌, append_assoc, sym}
use Rattle.std.proofs.lemmas.List.{length-map}
use Rattle.literals.specs.Literals.{listed}
use Rattle.dimacs_write.specs.Texts.{set_texts, set_text}
use Rattle.dimacs_write.proofs.Buffers.{put_append, put_both}
use Rattle.dimacs_write.proofs.Output.text.Goals as goal

pub returns : goal.returns
returns c =
    let V = c.args.loaded.vars in
    let rs = c.args.loaded.rules.now in
    let n = length rs in
    let R = set_texts V rs in
    let count = ap (λ k. decimal V ++ (32 ∷ (decimal k ++ (10 ∷ R)))) (sym (length-map rs (listed V))) in
    let shape = append_assoc (decimal V) (32 ∷ []) (decimal n ++ (10 ∷ R)) ∙ count in
    let s = c.args.self.now in
    let end = c.rules.new.self in
    record {
      put = put_both s c.bytes.new.self end (codes "p cnf ") ((decimal V ++ (32 ∷ [])) ++ (decimal n ++ (10 ∷ R))) (set_text V rs) (ap (λ l. codes "p cnf " ++ l) (sym shape)) c.bytes.ensures.put
          (put_append c.bytes.new.self c.spaced.new.self end (decimal V ++ (32 ∷ [])) (decimal n ++ (10 ∷ R)) c.spaced.ensures.put
          (put_append c.spaced.new.self c.number.new.self end (decimal n) (10 ∷ R) c.number.ensures.put
          (put_append c.number.new.self c.bytes-2.new.self end (10 ∷ []) R c.bytes-2.ensures.put c.rules.ensures.put)));
    }
