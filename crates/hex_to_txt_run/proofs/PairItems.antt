-- The item that a pair is encoded as, and that it fits.
use Rattle.std.proofs.Common.{◌≡◌, ℕ, ℤ, List, [], ◌∷◌, Some, None, refl, ap, sym, ◌∙◌, append-nil, lit<}
use Rattle.kmip_ttlv.specs.Errors.{Kind, io_error, exceeds_limit, malformed, mismatch, out_of_memory, length_overflow, Location}
use Rattle.kmip_ttlv.specs.Names.{tag_of, number, transparent_name}
use Rattle.kmip_ttlv.specs.Trees.{Tree, leaf_bytes, node_bytes, bytes, bytes_all}
use Rattle.kmip_ttlv.specs.{WrittenItems.take_tag, WrittenItems.some_item, Sizes.FitsAfter}
use Rattle.kmip_ttlv.specs.EncodeResults.{IsWrittenAs, FailsAs, origin}
use Rattle.hex_to_txt_run.specs.Pair.{written_pair, pair_tree}

the_tree : (a b : ℤ) (ts : List Tree) → Some (pair_tree a b ∷ []) ≡ Some ts → bytes_all ts ≡ bytes (pair_tree a b)
the_tree a b ts same =
    let is : pair_tree a b ∷ [] ≡ ts = cc in
    ap bytes_all (sym is) ∙ append-nil _

-- a pair is encoded as its item
pub pair_written : (a b : ℤ) (n : ℕ) (out : List ℕ) → IsWrittenAs (written_pair a b) n out → out ≡ bytes (pair_tree a b)
unfolding take_tag tag_of number transparent_name some_item
pair_written a b n out w = w.bytes_are ∙ the_tree a b w.trees w.are

pair_fits : (a b : ℤ) → FitsAfter 0 (pair_tree a b ∷ [])
unfolding leaf_bytes node_bytes
pair_fits a b = record { each = ((lit< tt, (lit< tt, (lit< tt, tt))), tt); total = lit< tt }

none_is_missing : (a b : ℤ) → Some (pair_tree a b ∷ []) ≡ None → ⊥
none_is_missing a b same = cc

-- and fails only when out of memory
pub pair_fails : (a b : ℤ) (kind : Kind) (location : Location) → FailsAs (written_pair a b) origin kind location → kind ≡ out_of_memory
unfolding take_tag tag_of number transparent_name some_item
pair_fails a b out_of_memory l h = refl
pair_fails a b length_overflow l h = absurd (h.1 (pair_fits a b))
pair_fails a b (malformed e) l h = absurd (none_is_missing a b h.no_items)
pair_fails a b (mismatch e) l h = absurd (none_is_missing a b h.no_items)
pair_fails a b (io_error e) l h = absurd h
pair_fails a b (exceeds_limit n) l h = absurd h
