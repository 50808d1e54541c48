-- What is seen of a message where its values are hidden.
use Rattle.std.specs.Prelude.{ℕ, Bool, false, List, [], map, Option, None}
use Rattle.kmip_ttlv_types.specs.declared.typ.TtlvType.{TtlvType}
use Rattle.kmip_ttlv_types.specs.declared.typ.TtlvType.TheVariants.{Enumeration}
use Rattle.kmip_ttlv_items.specs.declared.found.FoundItem.{FoundItem}
use Rattle.kmip_ttlv_items.specs.ItemWalks.{content_at}
use Rattle.ttlv_run.specs.declared.job.Look.{Look}
use Rattle.ttlv_run.specs.declared.job.Values.TheVariants.{Hidden}

-- how redacted lines of all items are printed, without offsets, lengths and bytes
abbrev pub redacted_look : Option ℕ → Bool → Look
redacted_look width colored = record {
  values = Hidden;
  secrets_hidden = false;
  offsets = false;
  lengths = false;
  bytes = false;
  width = width;
  colored = colored;
  only = None;
  path = None;
}

-- what is seen of an item: how many structures it is in, its tag, its type, and the value of an enumeration
pub record Seen : Type 0 where
  pub depth : ℕ
  pub tag : ℕ
  pub typ : TtlvType
  pub value : List ℕ

abbrev pub seen_value : TtlvType → List ℕ → List ℕ
seen_value Enumeration content = content
seen_value typ content = []

abbrev pub item_seen : List ℕ → FoundItem → Seen
item_seen bytes i = record {
  depth = i.depth;
  tag = i.tag;
  typ = i.typ;
  value = seen_value i.typ (content_at bytes i.offset);
}

-- the outline of a message's items
abbrev pub outline : List ℕ → List FoundItem → List Seen
outline bytes found = map (item_seen bytes) found
