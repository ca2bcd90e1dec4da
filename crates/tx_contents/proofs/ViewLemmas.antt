-- What is known stands for the same where other lists than the known ones have other contents.
use Rattle.std.proofs.Common.{◌≡◌, ℤ, false, List, ◌++◌, Option, Some, None, refl, ap}
use Rattle.std.specs.Option.{option_map}
use Rattle.tx_tok.specs.declared.tok.Tok.{Tok}
use Rattle.tx_tok.specs.declared.tok.ListRef.{ListRef}
use Rattle.tx_tok.specs.declared.tok.ListRef.TheVariants as list
use Rattle.tx_scan.specs.declared.cats.Cats.{Cats}
use Rattle.tx_node.specs.declared.BoxNode.{BoxNode}
use Rattle.tx_eqtb.specs.declared.meaning.Meaning.{Meaning}
use Rattle.tx_eqtb.specs.declared.meaning.Meaning.TheVariants as meaning
use Rattle.tx_private.specs.World.{World}
use Rattle.tx_private.specs.Meanings as private_meaning
use Rattle.tx_private.specs.Readings as private
use Rattle.tx_views.specs.declared.sense.Sense.{Sense}
use Rattle.tx_views.specs.declared.sense.Sense.TheVariants as sense
use Rattle.tx_views.specs.Views.{View, viewed, all_viewed, list_in}
use Rattle.tx_views.specs.Meanings.{meaning_in, sense_in}
use Rattle.tx_amounts.specs.declared.begun.Begun.{Begun}
use Rattle.tx_amounts.specs.Scanning as scans
use Rattle.tx_describe.specs.declared.rest.Rest.{Rest}
use Rattle.tx_describe.specs.declared.rest.Rest.TheVariants as rest
use Rattle.tx_describe.specs.Rests as described
use Rattle.tx_describe.specs.declared.description.Description.{Description}
use Rattle.tx_describe.specs.Descriptions.{macro_beginning, list_text, sense_text, rest_text, text_in, Knows}
use Rattle.tx_frames.specs.declared.reading.Reading.{Reading}
use Rattle.tx_frames.specs.declared.reading.Reading.TheVariants as reading
use Rattle.tx_frames.specs.declared.frame.Wish.{Wish}
use Rattle.tx_frames.specs.declared.frame.Wish.TheVariants as wish
use Rattle.tx_frames.specs.declared.value.Value.{Value}
use Rattle.tx_frames.specs.declared.value.Value.TheVariants as value
use Rattle.tx_frames.specs.Values.{command_in, value_in}
use Rattle.tx_frames.specs.Kinds.{kind_in, wished}
use Rattle.tx_frames.specs.Knowledge.{Known, KnowsList, KnowsSense, KnowsReading, KnowsWish, KnowsBegun, KnowsValue}
use Rattle.tx_commands.specs.Knowledge.{KnowsMeaning}

-- the view with these contents of lists
abbrev pub with_content : View → (ListRef → List Tok) → View
with_content view content = record view { content = content }

module _ (view : View) (content : ListRef → List Tok) (known : Known) (same : (l : ListRef) → KnowsList known l → view.content l ≡ content l) where
  abbrev other : View
  other = with_content view content

  -- lists, meanings and commands
  pub list-same : (l : ListRef) → KnowsList known l → list_in view l ≡ list_in other l
  list-same l h = ap (all_viewed view) (same l h)

  pub sense-same : (s : Sense) → KnowsSense known s → sense_in view s ≡ sense_in other s
  sense-same (sense.Macro long protected l) h = λ i. private_meaning.Macro' (record { long = long; protected = protected; body = list-same l h i })
  sense-same (sense.List l) h = ap private_meaning.Tokens (list-same l h)
  sense-same _ h = refl

  pub meaning-same : (m : Meaning BoxNode) → KnowsMeaning known m → meaning_in view m ≡ meaning_in other m
  meaning-same (meaning.Macro long protected l) h = λ i. private_meaning.Macro' (record { long = long; protected = protected; body = list-same l h i })
  meaning-same (meaning.List l) h = ap private_meaning.Tokens (list-same l h)
  meaning-same _ h = refl

  pub command-same : (t : Tok) (s : Sense) → KnowsSense known s → command_in view t s ≡ command_in other t s
  command-same t s h = λ i. record { token = viewed view t; marked = false; meaning = sense-same s h i }

  pub begun-same : (b : Option Begun) → KnowsBegun known b → option_map (scans.command_in view) b ≡ option_map (scans.command_in other) b
  begun-same None h = refl
  begun-same (Some b) h = ap Some (command-same b.token b.sense h)

  -- values, readings and wishes
  pub value-same : (v : Value) → KnowsValue known v → value_in view v ≡ value_in other v
  value-same (value.Command t s) h = ap private.Unexpandable (command-same t s h.1)
  value-same _ h = refl

  pub reading-same : (r : Reading) → KnowsReading known r → kind_in view r ≡ kind_in other r
  reading-same (reading.Quantity t s) h = ap private.QuantityFrom (command-same t s h.1)
  reading-same _ h = refl

  pub wish-same : (x : Wish) → KnowsWish known x → (w : World) → wished view x w ≡ wished other x w
  wish-same (wish.Within r) h w = ap (λ k. private.Sub k w) (reading-same r h)
  wish-same _ h w = refl

  -- what is printed
  module _ (cats : Cats) (esc : ℤ) where
    content-shown : (l : ListRef) → described.KnowsList known.list l → list_text view cats esc (view.content l) ≡ list_text other cats esc (content l)
    content-shown list.Empty h = ap (list_text view cats esc) (same list.Empty tt)
    content-shown (list.Frozen k) h = ap (list_text view cats esc) (same (list.Frozen k) h)
    content-shown (list.Pooled id) h = ap (list_text view cats esc) (same (list.Pooled id) h)

    sense-shown : (s : Sense) → described.KnowsSense known.list s → sense_text view cats esc s ≡ sense_text other cats esc s
    sense-shown (sense.Macro long protected l) h = ap (λ text. macro_beginning esc long protected ++ text) (content-shown l h)
    sense-shown _ h = refl

    rest-shown : (x : Rest) → described.KnowsRest known.name known.list x → rest_text view cats esc x ≡ rest_text other cats esc x
    rest-shown (rest.Content l) h = content-shown l h
    rest-shown (rest.Meaning s) h = sense-shown s h
    rest-shown _ h = refl

  pub text-same : (cats : Cats) (d : Description) → Knows known.name known.list d → text_in view cats d ≡ text_in other cats d
  text-same cats d h = ap (λ text. d.printed ++ text) (rest-shown cats d.escape d.rest h)
