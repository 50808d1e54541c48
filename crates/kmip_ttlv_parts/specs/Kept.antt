-- Items that are kept as they are, whatever their tags and types are, with all that is in them.
use Rattle.std.specs.Prelude.{ℕ, suc, Bool, true, false, ◌&&◌, List, [], length, Option, Some, None, nat_lt}
use Rattle.std.specs.List.{list_all}
use Rattle.std.specs.Str.{bytes_eq}
use Rattle.kmip_ttlv_types.specs.Trees.{Tree, bytes_all}
use Rattle.kmip_ttlv_base.specs.Values.{Values, no_values}
use Rattle.kmip_ttlv_ser.specs.WrittenItems.{items_in}
use Rattle.kmip_ttlv_ser.specs.declared.pending.PendingTag.TheVariants.{Nothing}
use Rattle.kmip_ttlv_reader.specs.Reads.{most_levels}
use Rattle.kmip_ttlv_reader.specs.Steps.{Outcome, gives}
use Rattle.kmip_ttlv_reader.specs.Outcomes.{any_outcome, each_outcome}

-- what the items from a place to another are read as
abbrev pub items_outcome : List ℕ → (pos end : ℕ) → Outcome Values
items_outcome b p e = each_outcome (suc (length b)) (any_outcome most_levels) b p e

-- the values that are given, if any are
abbrev pub given_values : Outcome Values → Values
given_values (gives vs) = vs
given_values _ = no_values

-- values are given
abbrev pub is_given : Outcome Values → Bool
is_given (gives vs) = true
is_given _ = false

-- the values of bytes that are such items
unfoldable pub kept_values : List ℕ → Values
kept_values b = given_values (items_outcome b 0 (length b))

-- the canonical bytes of items, if values have any
abbrev pub bytes_of_trees : Option (List Tree) → List ℕ
bytes_of_trees None = []
bytes_of_trees (Some ts) = bytes_all ts

-- the bytes are such items, and their canonical ones
unfoldable pub is_kept : List ℕ → Bool
is_kept b =
    is_given (items_outcome b 0 (length b))
    && (bytes_eq (bytes_of_trees (items_in (kept_values b) Nothing)) b && list_all (λ n. nat_lt n 256) b)
