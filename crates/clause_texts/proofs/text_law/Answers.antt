use Rattle.clause_texts.proofs.Rules.{text_law}
use Rattle.clause_texts.proofs.text_law.Goals as goal

pub returns : goal.returns
returns c = record { rules_allow_what_text_allows = text_law }
