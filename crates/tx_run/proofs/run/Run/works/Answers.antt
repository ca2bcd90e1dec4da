use Rattle.tx_run.proofs.KnowledgeLemmas.{ok-known}
use Rattle.tx_run.specs.Knowledge.{known_by}
use Rattle.std.proofs.Common.{◌≡◌, ◌∷◌, ℕ, List, sym, subst, ◌∙◌, ap}
use Rattle.tx_eqtb.specs.Meanings.{meanings}
use Rattle.tx_private.specs.Readings as private
use Rattle.tx_private.specs.Expansions.{gives_tokens, list_at}
use Rattle.tx_private.specs.Quantities.{quantity_at}
use Rattle.tx_private.specs.Texts.{tokens_of, quantity_text}
use Rattle.tx_private.specs.Lists.{storing}
use Rattle.tx_private.specs.Errors.{showing}
use Rattle.tx_private.specs.Described.{meaning_text}
use Rattle.tx_views.specs.Meanings.{sense_in}
use Rattle.tx_opens.specs.Opens.{Open, begun, depth_of, Comes}
use Rattle.tx_views.specs.Views.{list_in, all_viewed}
use Rattle.tx_views.specs.Places.{address_in}
use Rattle.tx_frames.specs.Answers.{move_of}
use Rattle.tx_scene.specs.Scenes.{world}
use Rattle.tx_run.specs.declared.doing.Use.TheVariants as use_of
use Rattle.tx_run.specs.Readings.{kind_of}
use Rattle.tx_run.specs.Doings.{used}
use Rattle.tx_run.specs.Runs.{opens, AnyComes, Leads, world_in}
use Rattle.tx_run.proofs.RunLemmas.{leads-map}
use Rattle.tx_run.proofs.TextLemmas.{copied-text}
use Rattle.tx_run.proofs.run.Run.works.Goals as goal

-- a quantity
pub returns-in-Amount-clause-leads : goal.returns-in-Amount-clause-leads
returns-in-Amount-clause-leads c = λ g ground r after o kind.
    let s = c.args.self.now.scene in
    let frozen = meanings c.args.format.now.frozen in
    let around = opens g.view c.args.self.now in
    let depth = depth_of (begun (kind_of g.view c.args.begun) ∷ around) in
    let same : c.quantity-quantity.result ≡ quantity_at (address_in g.view c.in-Amount.place) (world g frozen depth s) =
    subst (λ f. c.quantity-quantity.result ≡ quantity_at (address_in g.view c.in-Amount.place) (world g (meanings f) depth s)) c.frozen.ensures (c.quantity-quantity.ensures g depth ground.ground) in
    subst (λ x. Comes o around (move_of g.view x (world g frozen depth s)) r) (sym c.in-Amount.is)
    (subst (λ x. Comes o around (private.Done (private.Amount x) (world g frozen depth s)) r) same (after o depth))

-- a list
pub returns-in-ListAt-clause-leads : goal.returns-in-ListAt-clause-leads
returns-in-ListAt-clause-leads c = λ g ground r after o kind.
    let s = c.args.self.now.scene in
    let frozen = meanings c.args.format.now.frozen in
    let around = opens g.view c.args.self.now in
    let depth = depth_of (begun (kind_of g.view c.args.begun) ∷ around) in
    let same : list_in g.view c.list.result ≡ list_at (address_in g.view c.in-ListAt.place) (world g frozen depth s) =
    subst (λ f. list_in g.view c.list.result ≡ list_at (address_in g.view c.in-ListAt.place) (world g (meanings f) depth s)) c.frozen-in-ListAt.ensures (c.list.ensures.means g depth ground.ground) in
    subst (λ x. Comes o around (move_of g.view x (world g frozen depth s)) r) (sym c.in-ListAt.is)
    (subst (λ x. Comes o around (private.Done (private.Tokens x) (world g frozen depth s)) r) same (after o depth))

-- what \the gives of a list
pub returns-in-TheList-clause-leads : goal.returns-in-TheList-clause-leads
returns-in-TheList-clause-leads c = λ g ground.
    let run = c.args.self.now in
    let s = run.scene in
    let frozen = meanings c.args.format.now.frozen in
    let k = kind_of g.view c.args.begun in
    let around = opens g.view run in
    let depth = depth_of (begun k ∷ around) in
    let w = world g frozen depth s in
    let text = c.in-TheList.text in
    let same : list_in g.view c.list-list.result ≡ list_at (address_in g.view c.in-TheList.place) w =
    subst (λ f. list_in g.view c.list-list.result ≡ list_at (address_in g.view c.in-TheList.place) (world g (meanings f) depth s)) c.frozen-in-TheList.ensures (c.list-list.ensures.means g depth ground.ground) in
    leads-map (AnyComes g frozen k around (used c.use_in.result (list_in g.view c.list-list.result)) run) (AnyComes g frozen k around (move_of g.view c.args.work) run) g frozen c.copies.result c.copies.new.self
    (λ r after o kind. subst (λ x. Comes o around (move_of g.view x w) r) (sym c.in-TheList.is)
    (subst (λ m. Comes o around m r) (c.use_in.ensures (list_in g.view c.list-list.result) w ∙ ap (λ xs. gives_tokens text xs w) same) (after o kind)))
    (c.copies.ensures.leads g ground)

-- what \the gives of a quantity
pub returns-in-TheAmount-clause-leads : goal.returns-in-TheAmount-clause-leads
returns-in-TheAmount-clause-leads c = λ g ground.
    let run = c.args.self.now in
    let frozen = meanings c.args.format.now.frozen in
    let k = kind_of g.view c.args.begun in
    let around = opens g.view run in
    let w = world_in g frozen k around run in
    let tokens = tokens_of (quantity_text c.in-TheAmount.quantity) in
    copied-text g frozen k around c.use_in-in-TheAmount.result run c.copied.new.self c.quantity_tokens-tokens.result c.copied.result tokens (AnyComes g frozen k around (move_of g.view c.args.work) run)
    (c.copied.ensures.copied frozen g ground.ground) c.copied.ensures.memory c.quantity_tokens-tokens.ensures
    (λ r after o kind. subst (λ x. Comes o around (move_of g.view x w) r) (sym c.in-TheAmount.is) (subst (λ m. Comes o around m r) (c.use_in-in-TheAmount.ensures tokens w) (after o kind)))

-- a macro's body
pub returns-in-Body-clause-leads : goal.returns-in-Body-clause-leads
returns-in-Body-clause-leads c = λ g ground.
    let run = c.args.self.now in
    let frozen = meanings c.args.format.now.frozen in
    let k = kind_of g.view c.args.begun in
    let around = opens g.view run in
    let w = world_in g frozen k around run in
    leads-map (AnyComes g frozen k around (used use_of.Front (list_in g.view c.in-Body.list)) run) (AnyComes g frozen k around (move_of g.view c.args.work) run) g frozen c.copies-in-Body.result c.copies-in-Body.new.self
    (λ r after o kind. subst (λ x. Comes o around (move_of g.view x w) r) (sym c.in-Body.is) (after o kind))
    (c.copies-in-Body.ensures.leads g ground)

-- a text
pub returns-in-Print-clause-leads : goal.returns-in-Print-clause-leads
returns-in-Print-clause-leads c = λ g ground.
    let run = c.args.self.now in
    let frozen = meanings c.args.format.now.frozen in
    let k = kind_of g.view c.args.begun in
    let around = opens g.view run in
    subst (λ x. Leads (AnyComes g frozen k around (move_of g.view x) run) g frozen c.prints.result c.prints.new.self) (sym c.in-Print.is) (c.prints.ensures.leads g ground)

-- a list is stored
pub returns-in-Store-clause-leads : goal.returns-in-Store-clause-leads
returns-in-Store-clause-leads c = λ g ground.
    let run = c.args.self.now in
    let frozen = meanings c.args.format.now.frozen in
    let k = kind_of g.view c.args.begun in
    let around = opens g.view run in
    let depth = depth_of (begun k ∷ around) in
    leads-map (λ r. (o : Open) (depth : ℕ) → Comes o around (storing (all_viewed g.view c.in-Store.tokens) (world g frozen depth run.scene) (λ v. private.Done (private.Tokens (all_viewed g.view c.in-Store.tokens)) v)) r) (AnyComes g frozen k around (move_of g.view c.args.work) run) g frozen c.stores.result c.stores.new.self
    (λ r after o kind. subst (λ x. Comes o around (move_of g.view x (world g frozen depth run.scene)) r) (sym c.in-Store.is) (after o depth))
    (c.stores.ensures.leads g ground)

-- an error
pub returns-in-NoQuantity-clause-leads : goal.returns-in-NoQuantity-clause-leads
returns-in-NoQuantity-clause-leads c = λ g ground.
    let run = c.args.self.now in
    let frozen = meanings c.args.format.now.frozen in
    let k = kind_of g.view c.args.begun in
    let around = opens g.view run in
    let depth = depth_of (begun k ∷ around) in
    leads-map (λ r. (o : Open) (outside : List Open) (depth : ℕ) → Comes o outside (private.Bad (showing 21 0 (meaning_text (world g frozen depth run.scene).environment (sense_in g.view c.in-NoQuantity.sense))) (world g frozen depth run.scene)) r) (AnyComes g frozen k around (move_of g.view c.args.work) run) g frozen c.describes.result c.describes.new.self
    (λ r after o kind. subst (λ x. Comes o around (move_of g.view x (world g frozen depth run.scene)) r) (sym c.in-NoQuantity.is) (after o around depth))
    (c.describes.ensures.leads g ground)

pub returns-in-TheAmount-clause-knows : goal.returns-in-TheAmount-clause-knows
returns-in-TheAmount-clause-knows c names format scene behind start work =
    c.copied.ensures.knows names scene behind start (ok-known (known_by names c.args.self.now.scene) c.quantity_tokens-tokens.result _ c.quantity_tokens-tokens.ensures)
