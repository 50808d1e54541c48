use Rattle.std.proofs.Common.{◌≡◌, ℕ, List, ◌++◌, take, length, replicate, refl, ap, ◌∙◌, arith}
use Rattle.std.proofs.lemmas.List.{take-replicate}
use Rattle.kmip_ttlv_types.specs.ItemTypes.{pad_len}
use Rattle.kmip_ttlv_write.proofs.Emitting.{leaf_put}
use Rattle.kmip_ttlv_json.proofs.adding.push_leaf.Goals as goal

pub returns : goal.returns
returns g c =
    let content = c.args.content.now in
    let n = pad_len (length content) in
    let zeros : take n (replicate 8 0) ≡ replicate n 0 = take-replicate n 8 0 (omega arith) in
    let old = c.args.out.now.items in
    let first = c.extend_from_slice.new.self.items in
    let mid = c.extend_from_slice-2.new.self.items in
    leaf_put c.args.tag c.args.typ content old first mid c.extend_from_slice-3.new.self.items n
    (c.in_ok-extend_from_slice.ensures.items ∙ ap (λ (s : List ℕ). old ++ s) c.header_bytes.ensures)
    c.in_ok-extend_from_slice-2.ensures.items
    (c.in_ok-extend_from_slice-3.ensures.items ∙ ap (λ (s : List ℕ). mid ++ s) zeros) refl
