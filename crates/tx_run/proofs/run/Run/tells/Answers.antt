use Rattle.tx_run.specs.declared.doing.Told.TheVariants as told
use Rattle.tx_run.specs.declared.doing.Doing.TheVariants as doing
use Rattle.tx_run.specs.declared.run.Run.{Run}
use Rattle.tx_run.proofs.KnowledgeLemmas.{known-on, tokens-described}
use Rattle.tx_run.specs.Knowledge.{known_by}
use Rattle.std.proofs.Common.{◌≡◌, [], w32, sym, subst, rules, refl, pos}
use Rattle.std.specs.List.{flat_map}
use Rattle.std.proofs.lemmas.Int.{to_z-of_z}
use mir.Val.{SFits}
use Rattle.tx_eqtb.specs.Meanings.{meanings}
use Rattle.tx_prims.specs.declared.primitives.IntegerParameter.TheVariants.{EscapeChar}
use Rattle.tx_model.specs.Shown.{shown_in_list}
use Rattle.tx_scan.specs.declared.cats.Cats.{Cats}
use Rattle.tx_scan.specs.Scans.{category_by}
use Rattle.tx_private.specs.Environment.{parameter_of}
use Rattle.tx_private.specs.Errors.{showing}
use Rattle.tx_private.specs.Readings as private
use Rattle.tx_private.specs.World.{logged}
use Rattle.tx_opens.specs.Opens.{Comes}
use Rattle.tx_views.specs.Views.{View, all_viewed}
use Rattle.tx_describe.specs.Descriptions.{text_in}
use Rattle.tx_scene.specs.Scenes.{world}
use Rattle.tx_commands.specs.Commands.{told}
use Rattle.tx_run.proofs.TextLemmas.{described-list}
use Rattle.tx_run.proofs.run.Run.tells.Goals as goal

-- a line of the log
pub returns-in-Log-clause-leads : goal.returns-in-Log-clause-leads
returns-in-Log-clause-leads c = λ g ground r after o kind.
    let s = c.args.self.now.scene in
    let frozen = meanings c.args.format.now.frozen in
    let w = world g frozen 0 s in
    let tokens = c.args.tokens in
    let n = c.integer-escape.result in
    let d = c.list-description.result in
    let fits : SFits w32 c.integer-escape.result = search rules in
    let shows : (view : View) (cats : Cats) → text_in view cats d ≡ flat_map (shown_in_list (category_by cats) n) (all_viewed view tokens) =
    subst (λ m. (view : View) (cats : Cats) → text_in view cats d ≡ flat_map (shown_in_list (category_by cats) m) (all_viewed view tokens)) (to_z-of_z w32 n fits) c.list-description.ensures.text in
    let escape : n ≡ parameter_of w.environment EscapeChar =
    subst (λ f. n ≡ parameter_of (world g (meanings f) 0 s).environment EscapeChar) c.frozen.ensures (c.integer-escape.ensures g 0 ground.ground) in
    subst (λ m. Comes o [] (told m (all_viewed g.view tokens) w) r) (sym c.in-Log.is)
    (subst (λ text. Comes o [] (private.Again (logged text w)) r) (described-list g frozen 0 s tokens n d c.requires.sound shows escape) (after o kind))

-- an error
pub returns-in-Error-clause-leads : goal.returns-in-Error-clause-leads
returns-in-Error-clause-leads c = λ g ground r after o kind.
    let s = c.args.self.now.scene in
    let frozen = meanings c.args.format.now.frozen in
    let w = world g frozen 0 s in
    let tokens = c.args.tokens in
    let n = c.integer-escape.result in
    let d = c.list-description.result in
    let fits : SFits w32 c.integer-escape.result = search rules in
    let shows : (view : View) (cats : Cats) → text_in view cats d ≡ flat_map (shown_in_list (category_by cats) n) (all_viewed view tokens) =
    subst (λ m. (view : View) (cats : Cats) → text_in view cats d ≡ flat_map (shown_in_list (category_by cats) m) (all_viewed view tokens)) (to_z-of_z w32 n fits) c.list-description.ensures.text in
    let escape : n ≡ parameter_of w.environment EscapeChar =
    subst (λ f. n ≡ parameter_of (world g (meanings f) 0 s).environment EscapeChar) c.frozen.ensures (c.integer-escape.ensures g 0 ground.ground) in
    subst (λ m. Comes o [] (told m (all_viewed g.view tokens) w) r) (sym c.in-Error.is)
    (subst (λ text. Comes o [] (private.Bad (showing 62 0 text) w) r) (described-list g frozen 0 s tokens n d c.requires.sound shows escape) (after o [] 0))

pub returns-in-Log-clause-knows : goal.returns-in-Log-clause-knows
returns-in-Log-clause-knows c names scene tokens =
    let old = c.args.self.now in
    let known = known_by names old.scene in
    let new : Run = record old { doing = doing.Tells told.Log c.list-description.result } in
    known-on names old.scene new refl scene (c.list-description.ensures.knows names known.list (tokens-described known c.args.tokens tokens)) tt

pub returns-in-Error-clause-knows : goal.returns-in-Error-clause-knows
returns-in-Error-clause-knows c names scene tokens =
    let old = c.args.self.now in
    let known = known_by names old.scene in
    let new : Run = record old { doing = doing.Tells (told.Error (record { no = 62; case = 0; value = pos 0 })) c.list-description.result } in
    known-on names old.scene new refl scene (c.list-description.ensures.knows names known.list (tokens-described known c.args.tokens tokens)) tt
