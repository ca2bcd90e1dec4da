-- Answers, and the open readings that they are about.
use Rattle.std.proofs.Common.{◌≡◌, ◌∙◌}
use Rattle.tx_private.specs.World.{World}
use Rattle.tx_private.specs.Readings.{Move}
use Rattle.tx_opens.specs.Opens.{Open, SaysSame}
use Rattle.tx_views.specs.Views.{View}
use Rattle.tx_frames.specs.declared.answer.Answer.{Answer}
use Rattle.tx_frames.specs.declared.answer.Answer.TheVariants as answer
use Rattle.tx_frames.specs.Answers.{Becomes}

-- what comes of a reading comes of one that says the same and makes the same move
pub becomes-same : (view : View) (o p : Open) (m m' : Move) (w : World) (a : Answer) → SaysSame o p → m ≡ m' → Becomes view p m' w a → Becomes view o m w a
becomes-same view o p m m' w (answer.Goes f back) same e b =
    (record { kind = same.kind ∙ b.0.kind; says = λ item later v. same.says item later v ∙ b.0.says item later v }, e ∙ b.1)
becomes-same view o p m m' w (answer.Again back) same e b = e ∙ b
becomes-same view o p m m' w (answer.Done v back) same e b = e ∙ b
becomes-same view o p m m' w (answer.Wrong error) same e b = e ∙ b
becomes-same view o p m m' w (answer.Works x) same e b = e ∙ b
becomes-same view o p m m' w answer.Memory same e b = tt
