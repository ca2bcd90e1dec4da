use Rattle.std.proofs.Common.{[], sym, subst}
use Rattle.tx_views.specs.Meanings.{sense_in}
use Rattle.tx_frames.specs.ListPlaces.{braced}
use Rattle.tx_frames.specs.Opened.{braced_sense}
use Rattle.tx_frames.specs.Answers.{Becomes}
use Rattle.tx_frames.proofs.list.braced.Goals as goal

pub returns-in-Char-clause-becomes : goal.returns-in-Char-clause-becomes
returns-in-Char-clause-becomes c view w =
    subst (λ s. Becomes view (braced_sense view s) (braced (sense_in view s) [] w) w c.braced_char.result) (sym c.in-Char.is) (c.braced_char.ensures.becomes view w)

pub returns-in-Char-clause-knows : goal.returns-in-Char-clause-knows
returns-in-Char-clause-knows c known = c.braced_char.ensures.knows known
