use Rattle.flounder_show.proofs.TextImages.{text_has_image}
use Rattle.flounder_show.proofs.reading.law_texts_have_images.Goals as goal

pub returns : goal.returns
returns c = record { law = λ bytes i s. text_has_image bytes s.tokens s.tree i s.spells s.derives s.checks }
