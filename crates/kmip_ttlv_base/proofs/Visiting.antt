-- The events of a value, in parts.
use Rattle.std.proofs.Common.{◌≡◌, refl}
use Rattle.kmip_ttlv_base.specs.Values.{Values, no_values, value}
use Rattle.kmip_ttlv_base.specs.declared.visit.Leaf.{Leaf}
use Rattle.kmip_ttlv_base.specs.declared.visit.Leaf.TheVariants as leaves
use Rattle.kmip_ttlv_base.specs.Visits.{Event, alone, leaf_value, visited, visited_in, joined}

-- a leaf is one event
pub visited_leaf : {S : Type 0} (step : Event → S → S) (l : Leaf) (s : S) → visited step (leaf_value l) s ≡ step (alone (leaf_value l)) s
visited_leaf step (leaves.Bool b) s = refl
visited_leaf step (leaves.I8 z) s = refl
visited_leaf step (leaves.I16 z) s = refl
visited_leaf step (leaves.I32 z) s = refl
visited_leaf step (leaves.U32 n) s = refl
visited_leaf step (leaves.I64 z) s = refl
visited_leaf step (leaves.U64 n) s = refl
visited_leaf step (leaves.DateTime z) s = refl
visited_leaf step (leaves.Interval n) s = refl
visited_leaf step (leaves.Text t) s = refl
visited_leaf step (leaves.Bytes t) s = refl
visited_leaf step (leaves.BigInteger t) s = refl
visited_leaf step leaves.None s = refl
visited_leaf step (leaves.UnitVariant name variant) s = refl
visited_leaf step (leaves.Unsupported name) s = refl

-- the events of joined values are those of the first ones, and then of the later ones
pub visited_joined : {S : Type 0} (step : Event → S → S) (vs later : Values) (s : S) → visited_in step (joined vs later) s ≡ visited_in step later
    (visited_in step vs s)
visited_joined step no_values later s = refl
visited_joined step (value v vs) later s = visited_joined step vs later (visited step v s)
