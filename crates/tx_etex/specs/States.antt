-- What an expression under way says of later items.
use Rattle.std.specs.Prelude.{◌≡◌, ◌||◌, if◌then◌else◌, List, [], ◌∷◌, reverse, Option, Some, None, IsTrue}
use Rattle.tx_tok.specs.declared.tok.Tok.{Tok}
use Rattle.tx_num.specs.declared.quantities.Quant.{Quant}
use Rattle.tx_num.specs.declared.quantities.QuantKind.{QuantKind}
use Rattle.tx_num.specs.declared.quantities.Want.TheVariants as want
use Rattle.tx_num.specs.declared.quantities.Feed.{Feed}
use Rattle.tx_num.specs.declared.quantities.Feed.TheVariants as feed
use Rattle.tx_etex.specs.declared.amount.Amount.{Amount}
use Rattle.tx_etex.specs.declared.level.Level.{Level}
use Rattle.tx_etex.specs.declared.expression.Stage.{Stage}
use Rattle.tx_etex.specs.declared.expression.Stage.TheVariants as stage
use Rattle.tx_etex.specs.declared.expression.ExprScan.{ExprScan}
use Rattle.tx_etex.specs.Expressions.{amount_of, within}
use Rattle.tx_etex.specs.Readings.{Item, Token, Factor, Move, Asks, Gives, Fails, missing_parenthesis, outcome, is_space, is_other}
use Rattle.tx_etex.specs.Values.{begun, due, total, behind}

-- what is said where an expression of this kind ends with this value at this token: within others the
-- next one out goes on
abbrev pub ended : QuantKind → List Level → Option Amount → Tok → (Level → List Level → Stage → Move) → Move
ended kind [] value t more = outcome kind value
ended kind (o ∷ others) value t more =
    if is_other 41 t then more o others (stage.Behind value) else Fails missing_parenthesis

-- what an expression within those outside says of later items
abbrev pub says_at : Level → List Level → Stage → List Item → Move
says_at level outer stage.Due [] = Asks (want.Factor (due level))
says_at level outer (stage.Behind f) [] = Asks want.Expanded
says_at level outer stage.Due (Factor q ∷ items) = says_at level outer (stage.Behind (Some (amount_of q))) items
says_at level outer (stage.Behind f) (Factor q ∷ items) = says_at level outer (stage.Behind f) items
says_at level outer stage.Due (Token t ∷ items) =
    if is_other 40 t then says_at (begun (due level)) (level ∷ outer) stage.Due items
    else says_at level outer stage.Due items
says_at level outer (stage.Behind f) (Token t ∷ items) =
    if is_space t then says_at level outer (stage.Behind f) items
    else elim (behind level f t) [
      | Some next ↦ says_at next outer stage.Due items
      | None ↦ ended level.kind outer (within level.kind (total level f)) t (λ o others s. says_at o others s items)
    ]

-- what a scan says, of which the last of the outer expressions is the innermost
abbrev pub says : ExprScan → List Item → Move
says scan items = says_at scan.level (reverse scan.outer.items) scan.stage items

-- the same, where the expression that is read ends with this value at this token
abbrev pub says_ended : ExprScan → Option Amount → Tok → List Item → Move
says_ended scan value t items =
    ended scan.level.kind (reverse scan.outer.items) value t (λ o others s. says_at o others s items)

-- An answer is what is said of all later items, whatever they are: an outcome, or what `new` says of them.
abbrev pub Leads : Feed Quant → (List Item → Move) → (List Item → Move) → Type 0
Leads (feed.More back) said new = (back ≡ 0) × ((items : List Item) → said items ≡ new items)
Leads (feed.Done q back) said new = (items : List Item) → said items ≡ Gives q back
Leads (feed.Bad error) said new = (items : List Item) → said items ≡ Fails error
Leads feed.Memory said new = ⊥

-- a token that may come: where a factor is due, a space or a parenthesis that opens
abbrev pub MayCome : Move → Tok → Type 0
MayCome (Asks (want.Factor kind)) t = IsTrue (is_space t || is_other 40 t)
MayCome _ t = Unit {0}

-- a parenthesis opens, where a factor is due
abbrev pub Opens : Move → Item → Type 0
Opens (Asks (want.Factor kind)) (Token t) = IsTrue (is_other 40 t)
Opens _ item = ⊥

-- An answer to an item is what `old` says of later items after this one. Memory is wanting only where a
-- parenthesis opens, and then all is as before.
abbrev pub Answers : Feed Quant → (List Item → Move) → Item → (List Item → Move) → Type 0
Answers feed.Memory old item new = Opens (old []) item × ((items : List Item) → new items ≡ old items)
Answers answer old item new = Leads answer (λ items. old (item ∷ items)) new
