-- What lists are read from, and what \the gives of them.
use Rattle.std.specs.Prelude.{Bool, List, [], ◌∷◌, if◌then◌else◌}
use Rattle.tx_model.specs.declared.category.Cat.TheVariants as cat
use Rattle.tx_private.specs.Errors.{plain}
use Rattle.tx_private.specs.Meanings as meaning
use Rattle.tx_private.specs.World.{World, Command}
use Rattle.tx_private.specs.Readings as private
use Rattle.tx_private.specs.Texts.{tokens_of, quantity_text}
use Rattle.tx_private.specs.Quantities.{begins_quantity, byte_first}
use Rattle.tx_private.specs.Lists.{storing}
use Rattle.tx_private.specs.Expansions.{list_at, gives_tokens, no_quantity}
use Rattle.tx_views.specs.Views.{View}
use Rattle.tx_views.specs.Places.{address_in}
use Rattle.tx_frames.specs.declared.list_place.ListPlace.{ListPlace}
use Rattle.tx_frames.specs.declared.list_place.ListPlace.TheVariants as place

-- \the before a quantity that begins with this command, or before none
abbrev pub the_quantity : Bool → Command → meaning.Meaning → List private.Item → World → private.Move
the_quantity text command m [] w = if begins_quantity m then private.Sub (private.QuantityFrom command) w else no_quantity m w
the_quantity text command m (private.Given (private.Amount q) ∷ items) w = gives_tokens text (tokens_of (quantity_text q)) w
the_quantity text command m items w = private.Bad (plain 63) w

-- \the, by where the list stands
abbrev pub the_by : View → ListPlace → Bool → Command → meaning.Meaning → List private.Item → World → private.Move
the_by view (place.At p) text command m items w = gives_tokens text (list_at (address_in view p) w) w
the_by view place.Numbered text command m items w = byte_first 15 (λ n rest v. gives_tokens text (list_at (meaning.OfRegister meaning.Toks n) v) v) items w
the_by view place.Nowhere text command m items w = the_quantity text command m items w

-- a list in braces, if it begins with what means this
abbrev pub braced : meaning.Meaning → List private.Item → World → private.Move
braced (meaning.Character cat.Begin b) [] w = private.Sub private.Balanced w
braced (meaning.Character cat.Begin b) (private.Given (private.Tokens tokens) ∷ items) w = storing tokens w (λ v. private.Done (private.Tokens tokens) v)
braced _ items w = private.Bad (plain 8) w

-- the value of a list, by where it stands
abbrev pub list_by : View → ListPlace → meaning.Meaning → List private.Item → World → private.Move
list_by view (place.At p) m items w = private.Done (private.Tokens (list_at (address_in view p) w)) w
list_by view place.Numbered m items w = byte_first 15 (λ n rest v. private.Done (private.Tokens (list_at (meaning.OfRegister meaning.Toks n) v)) v) items w
list_by view place.Nowhere m items w = braced m items w
