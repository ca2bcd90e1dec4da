use Rattle.tx_run.specs.declared.doing.Doing.TheVariants as doing
use Rattle.tx_frames.specs.Knowledge.{KnowsPrint}
use Rattle.tx_run.specs.declared.run.Run.{Run}
use Rattle.tx_run.proofs.KnowledgeLemmas.{known-on, sense-described, token-described, ok-known}
use Rattle.tx_run.specs.Knowledge.{known_by}
use Rattle.std.proofs.Common.{◌≡◌, ◌∷◌, w32, IfOk, sym, subst, ◌∙◌, ap, rules, refl}
use Rattle.std.specs.Prelude.{codes}
use Rattle.std.proofs.lemmas.Int.{to_z-of_z}
use mir.Val.{SFits}
use Rattle.tx_eqtb.specs.Meanings.{meanings}
use Rattle.tx_model.specs.Shown.{shown_token}
use Rattle.tx_prims.specs.declared.primitives.IntegerParameter.TheVariants.{EscapeChar}
use Rattle.tx_scan.specs.declared.cats.Cats.{Cats}
use Rattle.tx_scan.specs.Scans.{category_by}
use Rattle.tx_private.specs.Environment.{Environment, parameter_of, category_of}
use Rattle.tx_private.specs.Described.{described, roman}
use Rattle.tx_private.specs.Errors.{decimal_of}
use Rattle.tx_private.specs.Readings as private
use Rattle.tx_private.specs.Texts.{tokens_of}
use Rattle.tx_private.specs.World.{put_in_front}
use Rattle.tx_opens.specs.Opens.{depth_of, begun}
use Rattle.tx_views.specs.Views.{View, viewed, all_viewed}
use Rattle.tx_views.specs.Meanings.{sense_in}
use Rattle.tx_describe.specs.Descriptions.{text_in}
use Rattle.tx_frames.specs.Answers.{printed}
use Rattle.tx_scene.specs.Scenes.{world}
use Rattle.tx_run.specs.declared.doing.Use.TheVariants as use_of
use Rattle.tx_run.specs.Readings.{kind_of}
use Rattle.tx_run.specs.Runs.{opens, AnyComes, Leads}
use Rattle.tx_run.proofs.TextLemmas.{copied-text, front-text, printed-token, described-meaning}
use Rattle.tx_run.proofs.run.Run.prints.Goals as goal

-- a token's text
pub returns-in-Token-clause-leads : goal.returns-in-Token-clause-leads
returns-in-Token-clause-leads c = λ g ground r after.
    let s = c.args.self.now.scene in
    let frozen = meanings c.args.format.now.frozen in
    let fits : SFits w32 c.integer-escape.result = search rules in
    let k = kind_of g.view c.args.begun in
    let around = opens g.view c.args.self.now in
    let depth = depth_of (begun k ∷ around) in
    let shows : text_in g.view s.environment.cats c.token.result ≡ shown_token c.integer-escape.result (viewed g.view c.in-Token.token) =
    subst (λ n. text_in g.view s.environment.cats c.token.result ≡ shown_token n (viewed g.view c.in-Token.token)) (to_z-of_z w32 c.integer-escape.result fits) (c.token.ensures.text g.view s.environment.cats) in
    let escape : c.integer-escape.result ≡ parameter_of (world g frozen depth s).environment EscapeChar =
    subst (λ f. c.integer-escape.result ≡ parameter_of (world g (meanings f) depth s).environment EscapeChar) c.frozen.ensures (c.integer-escape.ensures g depth ground.ground) in
    front-text g frozen k around c.args.self.now (text_in g.view s.environment.cats c.token.result) (λ w. printed g.view c.args.print w) r
    (printed-token g frozen depth s c.args.print c.in-Token.token c.integer-escape.result (text_in g.view s.environment.cats c.token.result) c.in-Token.is shows escape) after

-- a meaning's text
pub returns-in-Meaning-clause-leads : goal.returns-in-Meaning-clause-leads
returns-in-Meaning-clause-leads c = λ g ground r after.
    let s = c.args.self.now.scene in
    let frozen = meanings c.args.format.now.frozen in
    let n = c.integer-escape-in-Meaning.result in
    let fits : SFits w32 c.integer-escape-in-Meaning.result = search rules in
    let k = kind_of g.view c.args.begun in
    let around = opens g.view c.args.self.now in
    let depth = depth_of (begun k ∷ around) in
    let shows : (view : View) (cats : Cats) (e : Environment) → category_of e ≡ category_by cats → text_in view cats c.meaning.result ≡ described e n (sense_in view c.in-Meaning.sense) =
    subst (λ m. (view : View) (cats : Cats) (e : Environment) → category_of e ≡ category_by cats → text_in view cats c.meaning.result ≡ described e m (sense_in view c.in-Meaning.sense)) (to_z-of_z w32 n fits) c.meaning.ensures.text in
    let escape : n ≡ parameter_of (world g frozen depth s).environment EscapeChar =
    subst (λ f. n ≡ parameter_of (world g (meanings f) depth s).environment EscapeChar) c.frozen-in-Meaning.ensures (c.integer-escape-in-Meaning.ensures g depth ground.ground) in
    front-text g frozen k around c.args.self.now (text_in g.view s.environment.cats c.meaning.result) (λ w. printed g.view c.args.print w) r
    (described-meaning g frozen depth s c.in-Meaning.sense n c.meaning.result c.requires.sound shows escape ∙ ap (λ x. printed g.view x (world g frozen depth s)) (sym c.in-Meaning.is)) after

-- a number's text
pub returns-in-Number-clause-leads : goal.returns-in-Number-clause-leads
returns-in-Number-clause-leads c = λ g ground.
    let frozen = meanings c.args.format.now.frozen in
    let k = kind_of g.view c.args.begun in
    let around = opens g.view c.args.self.now in
    let n = c.in-Number.number in
    let fits : SFits w32 c.in-Number.number = search rules in
    let are : IfOk c.number_tokens-tokens.result (λ copy. (view : View) → all_viewed view copy ≡ tokens_of (decimal_of n)) =
    subst (λ m. IfOk c.number_tokens-tokens.result (λ copy. (view : View) → all_viewed view copy ≡ tokens_of (decimal_of m))) (to_z-of_z w32 n fits) c.number_tokens-tokens.ensures in
    subst (λ p. Leads (AnyComes g frozen k around (λ w. private.Again (put_in_front (tokens_of (printed g.view p w)) w)) c.args.self.now) g frozen c.copied.result c.copied.new.self) (sym c.in-Number.is)
    (copied-text g frozen k around use_of.Front c.args.self.now c.copied.new.self c.number_tokens-tokens.result c.copied.result (tokens_of (decimal_of n)) (AnyComes g frozen k around (λ w. private.Again (put_in_front (tokens_of (decimal_of n)) w)) c.args.self.now)
    (c.copied.ensures.copied frozen g ground.ground) c.copied.ensures.memory are (λ r after. after))

-- the same in Roman numerals
pub returns-in-Roman-clause-leads : goal.returns-in-Roman-clause-leads
returns-in-Roman-clause-leads c = λ g ground.
    let frozen = meanings c.args.format.now.frozen in
    let k = kind_of g.view c.args.begun in
    let around = opens g.view c.args.self.now in
    let n = c.in-Roman.number in
    let fits : SFits w32 c.in-Roman.number = search rules in
    let are : IfOk c.roman_tokens-tokens.result (λ copy. (view : View) → all_viewed view copy ≡ tokens_of (roman n)) =
    subst (λ m. IfOk c.roman_tokens-tokens.result (λ copy. (view : View) → all_viewed view copy ≡ tokens_of (roman m))) (to_z-of_z w32 n fits) c.roman_tokens-tokens.ensures in
    subst (λ p. Leads (AnyComes g frozen k around (λ w. private.Again (put_in_front (tokens_of (printed g.view p w)) w)) c.args.self.now) g frozen c.copied-in-Roman.result c.copied-in-Roman.new.self) (sym c.in-Roman.is)
    (copied-text g frozen k around use_of.Front c.args.self.now c.copied-in-Roman.new.self c.roman_tokens-tokens.result c.copied-in-Roman.result (tokens_of (roman n)) (AnyComes g frozen k around (λ w. private.Again (put_in_front (tokens_of (roman n)) w)) c.args.self.now)
    (c.copied-in-Roman.ensures.copied frozen g ground.ground) c.copied-in-Roman.ensures.memory are (λ r after. after))

-- the job's name
pub returns-in-JobName-clause-leads : goal.returns-in-JobName-clause-leads
returns-in-JobName-clause-leads c = λ g ground.
    let frozen = meanings c.args.format.now.frozen in
    let k = kind_of g.view c.args.begun in
    let around = opens g.view c.args.self.now in
    subst (λ p. Leads (AnyComes g frozen k around (λ w. private.Again (put_in_front (tokens_of (printed g.view p w)) w)) c.args.self.now) g frozen c.copied-in-JobName.result c.copied-in-JobName.new.self) (sym c.in-JobName.is)
    (copied-text g frozen k around use_of.Front c.args.self.now c.copied-in-JobName.new.self c.text_tokens-tokens.result c.copied-in-JobName.result (tokens_of (codes "texd")) (AnyComes g frozen k around (λ w. private.Again (put_in_front (tokens_of (codes "texd")) w)) c.args.self.now)
    (c.copied-in-JobName.ensures.copied frozen g ground.ground) c.copied-in-JobName.ensures.memory c.text_tokens-tokens.ensures (λ r after. after))

pub returns-in-Token-clause-knows : goal.returns-in-Token-clause-knows
returns-in-Token-clause-knows c names scene behind start print =
    let old = c.args.self.now in
    let known = known_by names old.scene in
    let new : Run = record old { doing = doing.Prints c.args.begun c.token.result } in
    let there = subst (λ p. KnowsPrint known p) c.in-Token.is print in
    known-on names old.scene new refl scene (start, c.token.ensures.knows names known.list (token-described known c.in-Token.token there)) behind

pub returns-in-Meaning-clause-knows : goal.returns-in-Meaning-clause-knows
returns-in-Meaning-clause-knows c names scene behind start print =
    let old = c.args.self.now in
    let known = known_by names old.scene in
    let new : Run = record old { doing = doing.Prints c.args.begun c.meaning.result } in
    let there = subst (λ p. KnowsPrint known p) c.in-Meaning.is print in
    known-on names old.scene new refl scene (start, c.meaning.ensures.knows names known.list (sense-described known c.in-Meaning.sense there)) behind

pub returns-in-Number-clause-knows : goal.returns-in-Number-clause-knows
returns-in-Number-clause-knows c names scene behind start print =
    c.copied.ensures.knows names scene behind start (ok-known (known_by names c.args.self.now.scene) c.number_tokens-tokens.result _ c.number_tokens-tokens.ensures)

pub returns-in-Roman-clause-knows : goal.returns-in-Roman-clause-knows
returns-in-Roman-clause-knows c names scene behind start print =
    c.copied-in-Roman.ensures.knows names scene behind start (ok-known (known_by names c.args.self.now.scene) c.roman_tokens-tokens.result _ c.roman_tokens-tokens.ensures)

pub returns-in-JobName-clause-knows : goal.returns-in-JobName-clause-knows
returns-in-JobName-clause-knows c names scene behind start print =
    c.copied-in-JobName.ensures.knows names scene behind start (ok-known (known_by names c.args.self.now.scene) c.text_tokens-tokens.result (codes "texd") c.text_tokens-tokens.ensures)
