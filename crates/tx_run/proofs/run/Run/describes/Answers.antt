use Rattle.tx_run.specs.declared.doing.Told.TheVariants as told
use Rattle.tx_run.specs.declared.doing.Doing.TheVariants as doing
use Rattle.tx_run.specs.declared.run.Run.{Run}
use Rattle.tx_run.proofs.KnowledgeLemmas.{known-on, sense-described}
use Rattle.tx_run.specs.Knowledge.{known_by}
use Rattle.std.proofs.Common.{◌≡◌, pos, w32, subst, rules, refl}
use Rattle.std.proofs.lemmas.Int.{to_z-of_z}
use mir.Val.{SFits}
use Rattle.tx_eqtb.specs.Meanings.{meanings}
use Rattle.tx_prims.specs.declared.primitives.IntegerParameter.TheVariants.{EscapeChar}
use Rattle.tx_scan.specs.declared.cats.Cats.{Cats}
use Rattle.tx_scan.specs.Scans.{category_by}
use Rattle.tx_private.specs.Environment.{Environment, parameter_of, category_of}
use Rattle.tx_private.specs.Described.{described, meaning_text}
use Rattle.tx_views.specs.Views.{View}
use Rattle.tx_views.specs.Meanings.{sense_in}
use Rattle.tx_describe.specs.Descriptions.{text_in}
use Rattle.tx_scene.specs.Scenes.{world}
use Rattle.tx_run.proofs.TextLemmas.{described-meaning, shows-meaning}
use Rattle.tx_run.proofs.run.Run.describes.Goals as goal

-- the error shows the meaning's text
pub returns-clause-leads : goal.returns-clause-leads
returns-clause-leads c = λ g ground r after o around depth.
    let s = c.args.self.now.scene in
    let frozen = meanings c.args.format.now.frozen in
    let n = c.integer-escape.result in
    let fits : SFits w32 c.integer-escape.result = search rules in
    let d = c.meaning-description.result in
    let shows : (view : View) (cats : Cats) (e : Environment) → category_of e ≡ category_by cats → text_in view cats d ≡ described e n (sense_in view c.args.sense) =
    subst (λ m. (view : View) (cats : Cats) (e : Environment) → category_of e ≡ category_by cats → text_in view cats d ≡ described e m (sense_in view c.args.sense)) (to_z-of_z w32 n fits) c.meaning-description.ensures.text in
    let escape : n ≡ parameter_of (world g frozen depth s).environment EscapeChar =
    subst (λ f. n ≡ parameter_of (world g (meanings f) depth s).environment EscapeChar) c.frozen.ensures (c.integer-escape.ensures g depth ground.ground) in
    shows-meaning g frozen (record { no = c.args.no; case = 0; value = pos 0 }) (text_in g.view s.environment.cats d) (meaning_text (world g frozen depth s).environment (sense_in g.view c.args.sense)) c.args.self.now r o around depth
    (described-meaning g frozen depth s c.args.sense n d c.requires.sound shows escape) after

pub returns-clause-knows : goal.returns-clause-knows
returns-clause-knows c names scene means =
    let old = c.args.self.now in
    let known = known_by names old.scene in
    let new : Run = record old { doing = doing.Tells (told.Error (record { no = c.args.no; case = 0; value = pos 0 })) c.meaning-description.result } in
    known-on names old.scene new refl scene (c.meaning-description.ensures.knows names known.list (sense-described known c.args.sense means)) tt
