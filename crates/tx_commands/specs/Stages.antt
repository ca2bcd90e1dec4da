-- Commands in the middle of a step.
use Rattle.std.specs.Prelude.{◌||◌, false, List, if◌then◌else◌}
use Rattle.tx_private.specs.World.{World}
use Rattle.tx_prims.specs.declared.primitives.Assignment.{Assignment}
use Rattle.tx_private.specs.Meanings.{OfCode, Meaning}
use Rattle.tx_private.specs.Readings.{Item, Move}
use Rattle.tx_private.specs.Quantities.{byte_first, codes_of}
use Rattle.tx_private.specs.Lists.{is_skipped}
use Rattle.tx_private.specs.Assignments.{Prefixes, no_prefix, assign_at}
use Rattle.tx_private.specs.Controls.{names, if_prefix, prefix_of, behind_prefix, prefixed, bad_prefix, other_command}

-- a command that begins with what means this, without a prefix
abbrev pub begun_with : Meaning → List Item → World → Move
begun_with m items w = if_prefix (prefix_of m no_prefix) (λ p. behind_prefix p items w) (prefixed no_prefix false m items w (other_command m items w))

-- a command behind prefixes that begins with what means this, which is not skipped
abbrev pub prefixed_with : Prefixes → Meaning → List Item → World → Move
prefixed_with p m items w =
    if_prefix (prefix_of m p) (λ q. behind_prefix q items w) (prefixed p (p.long || p.protected) m items w (bad_prefix m w))

-- the same, where spaces and \relax are skipped
abbrev pub skipping : Prefixes → Meaning → List Item → World → Move
skipping p m items w = if is_skipped m then behind_prefix p items w else prefixed_with p m items w

-- an assignment that is for no register
abbrev pub coded_or_named : Prefixes → Assignment → List Item → World → Move
coded_or_named p a items w = codes_of a (λ table. byte_first 16 (λ b rest v. assign_at p (OfCode table b) rest v) items w) (names p a items w)
