-- The diagnostic of any bytes, which depends on their number and their trace alone.
use Rattle.std.specs.Prelude.{ℕ, Bool, List, codes}
use Rattle.kmip_ttlv_types.specs.Places.{tag_at}
use Rattle.kmip_ttlv_util.specs.Outlines.{mark}
use Rattle.kmip_ttlv_util.specs.Traces.{Style, printed_text}
use Rattle.kmip_ttlv_util.specs.Entries.{Entry, detail_value}

-- what is written if a structure's content exceeds its length
unfoldable pub exceeded : List ℕ
exceeded = codes "\nERROR: TTLV structure content exceeds the structure length."

-- marks of entries, `]` for the end of a structure, and `ERR` for an entry that can't be read
abbrev pub diag_style : List ℕ → Style
diag_style prefix = record {
  item = λ depth p x t. mark prefix (tag_at x.header 0) t (detail_value t x.detail);
  close = codes "]";
  passed = exceeded;
  unreadable = codes "ERR";
}

-- the diagnostic of bytes, from how many there are and from their trace
unfoldable pub hostile : List ℕ → Bool → ℕ → List Entry → List ℕ
hostile prefix closed count xs = printed_text (diag_style prefix) closed count xs
