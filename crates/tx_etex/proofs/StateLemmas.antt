-- What an expression under way says at its end.
use Rattle.std.proofs.Common.{◌≡◌, false, List, ◌∷◌, Option, None, ◌∙◌}
use Rattle.tx_tok.specs.declared.tok.Tok.{Tok}
use Rattle.tx_num.specs.declared.quantities.Quant.{Quant}
use Rattle.tx_num.specs.declared.quantities.Feed.{Feed}
use Rattle.tx_num.specs.declared.quantities.Feed.TheVariants as feed
use Rattle.tx_etex.specs.declared.amount.Amount.{Amount}
use Rattle.tx_etex.specs.declared.level.Level.{Level}
use Rattle.tx_etex.specs.declared.expression.Stage.TheVariants as stage
use Rattle.tx_etex.specs.Expressions.{within}
use Rattle.tx_etex.specs.Readings.{Item, Token, Move, is_space}
use Rattle.tx_etex.specs.Values.{total, behind}
use Rattle.tx_etex.specs.States.{Answers, Leads, ended, says_at}

pub answers-from_leads : (answer : Feed Quant) (old said new : List Item → Move) (item : Item) →
    Leads answer said new → ((items : List Item) → old (item ∷ items) ≡ said items) → Answers answer old item new
answers-from_leads (feed.More back) old said new item h e = (h.0, λ items. e items ∙ h.1 items)
answers-from_leads (feed.Done q back) old said new item h e = λ items. e items ∙ h items
answers-from_leads (feed.Bad error) old said new item h e = λ items. e items ∙ h items
answers-from_leads feed.Memory old said new item h e = absurd h

-- a token that is neither a space nor an operator ends it
pub says_at-end : (level : Level) (outer : List Level) (f value : Option Amount) (t : Tok) (items : List Item) →
    is_space t ≡ false → behind level f t ≡ None → value ≡ within level.kind (total level f) →
    says_at level outer (stage.Behind f) (Token t ∷ items)
    ≡ ended level.kind outer value t (λ o others s. says_at o others s items)
says_at-end level outer f value t items p q e = rw (p, q, e)
