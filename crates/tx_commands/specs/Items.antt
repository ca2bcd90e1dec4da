-- What commands are given, as the definitions have it.
use Rattle.tx_private.specs.Readings as private
use Rattle.tx_views.specs.Views.{View, all_viewed, list_in}
use Rattle.tx_frames.specs.Values.{command_in}
use Rattle.tx_commands.specs.declared.item.Item.{Item}
use Rattle.tx_commands.specs.declared.item.Item.TheVariants as item

-- an item as the definitions have it
abbrev pub item_in : View → Item → private.Item
item_in view (item.Token t s) = private.Tok (command_in view t s)
item_in view item.End = private.End
item_in view (item.Expanded t s) = private.Given (private.Unexpandable (command_in view t s))
item_in view item.TextEnd = private.Given private.TextEnd
item_in view (item.Tokens tokens) = private.Given (private.Tokens (all_viewed view tokens))
item_in view (item.List list) = private.Given (private.Tokens (list_in view list))
item_in view (item.Amount q) = private.Given (private.Amount q)
item_in view (item.Word k) = private.Given (private.Word k)
item_in view item.Nothing = private.Given private.Nothing
