-- A scan that was given nothing says what the reading of its kind does.
use Rattle.std.proofs.Common.{◌≡◌, Bool, true, false, List, [], None, refl, sym, ◌∙◌, ap}
use Rattle.std.specs.Option.{option_map}
use mathlib.Core.Path.{fun_ext}
use Rattle.tx_num.specs.declared.quantities.Quant.TheVariants as quant
use Rattle.tx_num.specs.declared.quantities.Want.{Want}
use Rattle.tx_num.specs.declared.glue.GlueSpec.{GlueSpec}
use Rattle.tx_quant.specs.declared.number.NumScan.{NumScan}
use Rattle.tx_quant.specs.declared.dimension.DimScan.{DimScan}
use Rattle.tx_quant.specs.declared.glue.GlueScan.{GlueScan}
use Rattle.tx_quant.specs.declared.keyword.Keyword.{Keyword}
use Rattle.tx_quant.specs.declared.keyword.KeySet.{KeySet}
use Rattle.tx_quant.specs.Items as quantities
use Rattle.tx_quant.specs.Numbers.{number}
use Rattle.tx_quant.specs.Dimensions.{dimension_value}
use Rattle.tx_quant.specs.Glues.{glue_value}
use Rattle.tx_quant.specs.Keywords.{keyword, keyword_says}
use Rattle.tx_quant.specs.NumberStates.{number_says}
use Rattle.tx_quant.specs.DimensionStates.{dimension_says}
use Rattle.tx_quant.specs.GlueStates.{glue_says}
use Rattle.tx_views.specs.Views.{View}
use Rattle.tx_private.specs.World.{World}
use Rattle.tx_private.specs.Readings.{Number, DimensionOf, GlueOf, Keyword as KeywordOf, Amount as AmountOf, Item, Move}
use Rattle.tx_private.specs.Quantities.{begins_quantity}
use Rattle.tx_private.specs.Scans.{scan_from, scan}
use Rattle.tx_private.specs.Moves.{move_in, em, ex, none, glue_amount as glue_value_of}
use Rattle.tx_amounts.specs.declared.automaton.Automaton.{Automaton}
use Rattle.tx_amounts.specs.declared.automaton.Automaton.TheVariants as automaton
use Rattle.tx_amounts.specs.declared.scan.Scan.{Scan}
use Rattle.tx_amounts.specs.Automata.{reading, begins, amount_in, wish_at, number_amount, dimension_amount, glue_amount, word_amount}
use Rattle.tx_amounts.specs.Scanning.{says, wished, wish_behind, wish_move, command_in, taken_in}
use Rattle.tx_amounts.proofs.StepLemmas.{value-before, same-reading, wish-now}

-- what an automaton says that was given nothing
abbrev Fresh : Automaton → List Item → World → Move
Fresh a items w = scan_from (begins a) (reading a) amount_in [] [] None items w

pub fresh-number : (n : NumScan) → ((items : List quantities.Item) → number_says n items ≡ number items) → (items : List Item) (w : World) → Fresh (automaton.Number n) items w ≡ move_in Number items w
unfolding move_in
fresh-number n e items w =
    value-before begins_quantity (number_says n) number_amount amount_in [] [] None items w ∙
    same-reading begins_quantity (λ v. AmountOf (quant.Int v)) (number_says n) number e items w

pub fresh-dimension : (mu : Bool) (d : DimScan) → ((items : List quantities.Item) → dimension_says d items ≡ dimension_value mu em ex items) → (items : List Item) (w : World) → Fresh (automaton.Dimension d) items w ≡ move_in (DimensionOf mu) items w
unfolding move_in
fresh-dimension mu d e items w =
    value-before begins_quantity (dimension_says d) dimension_amount amount_in [] [] None items w ∙
    same-reading begins_quantity (λ v. AmountOf (quant.Dim v)) (dimension_says d) (dimension_value mu em ex) e items w

-- glue is that of the definitions
glue-valued : (mu : Bool) (g : GlueSpec) → amount_in (glue_amount mu g) ≡ glue_value_of mu g
glue-valued true g = refl
glue-valued false g = refl

pub fresh-glue : (mu : Bool) (g : GlueScan) → ((items : List quantities.Item) → glue_says g items ≡ glue_value mu em ex items) → (items : List Item) (w : World) → Fresh (automaton.Glue mu g) items w ≡ move_in (GlueOf mu) items w
unfolding move_in
fresh-glue mu g e items w =
    value-before begins_quantity (glue_says g) (glue_amount mu) amount_in [] [] None items w ∙
    ap (λ value. scan_from begins_quantity (glue_says g) value [] [] None items w) (fun_ext (glue-valued mu)) ∙
    same-reading begins_quantity (glue_value_of mu) (glue_says g) (glue_value mu em ex) e items w

pub fresh-keyword : (set : KeySet) (k : Keyword) → ((items : List quantities.Item) → keyword_says k items ≡ keyword set items) → (items : List Item) (w : World) → Fresh (automaton.Keyword k) items w ≡ move_in (KeywordOf set) items w
unfolding move_in
fresh-keyword set k e items w =
    value-before none (keyword_says k) word_amount amount_in [] [] None items w ∙
    same-reading none (λ v. amount_in (word_amount v)) (keyword_says k) (keyword set) e items w

-- a scan with that automaton, that has taken nothing
pub fresh-says : (view : View) (scan : Scan) (a : Automaton) (items : List Item) (w : World) → scan.automaton ≡ a → scan.taken.items ≡ [] → scan.begun ≡ None → says view scan items w ≡ Fresh a items w
fresh-says view scan a items w same empty none' =
    ap (λ b. scan_from (begins scan.automaton) (reading scan.automaton) amount_in [] (taken_in view scan.taken.items) b items w) (ap (λ b. option_map (command_in view) b) none') ∙
    ap (λ taken. scan_from (begins scan.automaton) (reading scan.automaton) amount_in [] (taken_in view taken) None items w) empty ∙
    ap (λ b. Fresh b items w) same

-- what it does now is its wish
pub fresh-wish : (view : View) (scan : Scan) (how : Want) (w : World) → scan.begun ≡ None → reading scan.automaton [] ≡ quantities.Asks how 0 → says view scan [] w ≡ wish_move view scan w
fresh-wish view scan how w none' e =
    ap (λ b. scan_from (begins scan.automaton) (reading scan.automaton) amount_in [] (taken_in view scan.taken.items) (option_map (command_in view) b) [] w) none' ∙
    wish-now amount_in (taken_in view scan.taken.items) w (reading scan.automaton []) how e ∙
    sym (ap (λ b. wished (option_map (command_in view) b) (wish_behind b (wish_at (reading scan.automaton []))) w) none')
