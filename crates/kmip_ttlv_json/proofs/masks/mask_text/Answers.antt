use Rattle.std.proofs.Common.{rules, ◌≡◌, ◌∙◌, [], Bool, if◌then◌else◌, Some, None, ap, sym, string_bytes}
use Rattle.kmip_words.specs.Words.{is_number, mask_of}
use Rattle.kmip_ttlv_json.specs.declared.masks.TheConstants.{BITS}
use Rattle.kmip_ttlv_json.specs.Masks.{words_behind}
use Rattle.kmip_ttlv_json.proofs.Wordings.{mask_none, mask_some}
use Rattle.kmip_ttlv_json.proofs.masks.mask_text.Goals as goal

pub returns-in_default : goal.returns-in_default
returns-in_default g c =
    let none : words_behind c.args.tag c.args.separator c.args.mask [] BITS ≡ None = search rules in
    sym (mask_none c.args.tag c.args.separator c.args.mask none)

pub returns-then-is_read : goal.returns-then-is_read
returns-then-is_read g c =
    let text = string_bytes c.in-Some.text in
    let some : words_behind c.args.tag c.args.separator c.args.mask [] BITS ≡ Some text = search rules in
    let read = c.is_read.ensures ∙ ap (λ s. is_number c.args.mask (mask_of c.args.tag c.args.separator s)) c.as_str.ensures.value in
    sym (mask_some c.args.tag c.args.separator c.args.mask text c.is_read.result some read
    ∙ ap (λ (b : Bool). if b then Some text else None) c.if-is_read.true)

pub returns-else-is_read : goal.returns-else-is_read
returns-else-is_read g c =
    let text = string_bytes c.in-Some.text in
    let some : words_behind c.args.tag c.args.separator c.args.mask [] BITS ≡ Some text = search rules in
    let read = c.is_read.ensures ∙ ap (λ s. is_number c.args.mask (mask_of c.args.tag c.args.separator s)) c.as_str.ensures.value in
    sym (mask_some c.args.tag c.args.separator c.args.mask text c.is_read.result some read
    ∙ ap (λ (b : Bool). if b then Some text else None) c.if-is_read.false)
