-- What the calls do to the world.
use Rattle.std.specs.Prelude.{◌≡◌, ℕ, Bool, List, [], ◌∷◌, pos, if◌then◌else◌}
use Rattle.tx_node.specs.declared.BoxNode.{BoxNode}
use Rattle.tx_eqtb.specs.Meanings.{Map}
use Rattle.tx_model.specs.declared.reply.Status.TheVariants as status
use Rattle.tx_private.specs.Errors.{Error, plain, numbered}
use Rattle.tx_private.specs.Environment.{Level}
use Rattle.tx_private.specs.World.{World, failure, put_in_front}
use Rattle.tx_private.specs.Readings.{Move, Again, Bad}
use Rattle.tx_private.specs.Reads.{Failed}
use Rattle.tx_private.specs.Region.{outcome_of, outcome_by}
use Rattle.tx_private.specs.Lists.{most_stored, storing}
use Rattle.tx_private.specs.Controls.{close}
use Rattle.tx_save.specs.declared.group.Closed.{Closed}
use Rattle.tx_save.specs.declared.group.Closed.TheVariants as closed
use Rattle.tx_tok.specs.declared.tok.Tok.{Tok}
use Rattle.tx_views.specs.Views.{all_viewed}
use Rattle.tx_input.specs.declared.input.Taken.{Taken}
use Rattle.tx_input.specs.Takings.{TakesBy}
use Rattle.tx_scene.specs.declared.scene.Scene.{Scene}
use Rattle.tx_scene.specs.Scenes.{Ground, IsGround, world}

-- what reads the numbers of the first scene reads those of the second one
abbrev pub KeepsGround : Scene → Scene → Type 0
KeepsGround old new = (g : Ground) → IsGround g old → IsGround g new

-- the world becomes another one, over each frozen map and however many readings are open
abbrev pub Changes : (Ground → World → World) → Scene → Scene → Type 0
Changes f old new = (g : Ground) (frozen : Map BoxNode) (depth : ℕ) → IsGround g old → world g frozen depth new ≡ f g (world g frozen depth old)

-- what came of the wish for a token
abbrev pub Takes : Map BoxNode → Scene → Taken → Scene → Type 0
Takes frozen old taken new =
    (g : Ground) (depth : ℕ) → IsGround g old → TakesBy g.view (world g frozen depth old) taken new.input.wanted (world g frozen depth new)

-- a list of tokens is stored, or it is one too many
abbrev pub Stores : List Tok → Bool → Scene → Scene → Type 0
Stores tokens fits old new =
    (g : Ground) (frozen : Map BoxNode) (depth : ℕ) (further : World → Move) →
    storing (all_viewed g.view tokens) (world g frozen depth old) further
    ≡ (if fits then further (world g frozen depth new) else Bad (numbered 57 5 (pos (most_stored old.preamble))) (world g frozen depth old))

-- the region has failed by this error, and what it has made ends with the error's lines
abbrev pub FailsBy : Map BoxNode → Error → Scene → Scene → Type 0
FailsBy frozen error old new =
    (g : Ground) (depth : ℕ) → IsGround g old →
    outcome_of (Failed (failure error (world g frozen depth old))) ≡ outcome_by status.Fail (world g frozen depth new).output

-- what comes where the innermost group ends
abbrev pub closing_in : List Level → World → Move
closing_in [] w = Bad (plain 63) w
closing_in (level ∷ levels) w = close level levels w

abbrev pub closing : World → Move
closing w = closing_in w.environment.groups w

-- what a step of the end of the innermost group does: it goes on ending, or it has ended and leaves tokens
abbrev pub Closes : Closed BoxNode → Scene → Scene → Type 0
Closes (closed.Dropped m) old new = (g : Ground) (frozen : Map BoxNode) (depth : ℕ) → closing (world g frozen depth old) ≡ closing (world g frozen depth new)
Closes (closed.End kind after) old new =
    (g : Ground) (frozen : Map BoxNode) (depth : ℕ) → closing (world g frozen depth old) ≡ Again (put_in_front (all_viewed g.view after) (world g frozen depth new))
