-- What the answer of a scan is for its reading.
use Rattle.std.specs.Prelude.{[], ◌∷◌}
use Rattle.tx_private.specs.World.{World}
use Rattle.tx_private.specs.Readings as private
use Rattle.tx_opens.specs.Opens.{given}
use Rattle.tx_amounts.specs.declared.scan.Scan.{Scan}
use Rattle.tx_views.specs.Views.{View}
use Rattle.tx_frames.specs.declared.reading.Reading.{Reading}
use Rattle.tx_frames.specs.declared.frame.Frame.TheVariants as frame
use Rattle.tx_frames.specs.declared.answer.Answer.{Answer}
use Rattle.tx_frames.specs.Frames.{says, open_of}
use Rattle.tx_frames.specs.Answers.{Becomes}

-- an answer says what becomes of a scan that is given this item
abbrev pub AnswersScan : View → Reading → Scan → private.Item → World → Answer → Type 0
AnswersScan view r old i w a = Becomes view (given (open_of view (frame.Scan r old)) i) (says view (frame.Scan r old) (i ∷ []) w) w a

-- a value that is no token: to a scan all of them are as the end of the text
abbrev pub IsNoToken : private.Value → Type 0
IsNoToken (private.Unexpandable c) = ⊥
IsNoToken v = Unit {0}
