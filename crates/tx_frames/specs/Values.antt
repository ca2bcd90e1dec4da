-- Values and items as the definitions have them.
use Rattle.std.specs.Prelude.{false}
use Rattle.tx_tok.specs.declared.tok.Tok.{Tok}
use Rattle.tx_private.specs.World.{Command}
use Rattle.tx_private.specs.Readings as private
use Rattle.tx_views.specs.declared.sense.Sense.{Sense}
use Rattle.tx_views.specs.Views.{View, viewed, all_viewed}
use Rattle.tx_views.specs.Meanings.{sense_in}
use Rattle.tx_frames.specs.declared.value.Value.{Value}
use Rattle.tx_frames.specs.declared.value.Value.TheVariants as value
use Rattle.tx_frames.specs.declared.value.Item.{Item}
use Rattle.tx_frames.specs.declared.value.Item.TheVariants as item

-- a token with its meaning
abbrev pub command_in : View → Tok → Sense → Command
command_in view t s = record { token = viewed view t; marked = false; meaning = sense_in view s }

abbrev pub value_in : View → Value → private.Value
value_in view (value.Command t s) = private.Unexpandable (command_in view t s)
value_in view value.TextEnd = private.TextEnd
value_in view (value.Tokens tokens) = private.Tokens (all_viewed view tokens)
value_in view (value.Amount q) = private.Amount q
value_in view (value.Word k) = private.Word k
value_in view value.Nothing = private.Nothing

abbrev pub item_in : View → Item → private.Item
item_in view (item.Token t s) = private.Tok (command_in view t s)
item_in view item.End = private.End
item_in view (item.Given v) = private.Given (value_in view v)
