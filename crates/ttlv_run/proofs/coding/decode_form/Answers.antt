use Rattle.std.proofs.Common.{rules}
use Rattle.base64.specs.Engines.{standard, url_safe, url_safe_no_pad}
use Rattle.ttlv_run.proofs.Groups.{decoded_within}
use Rattle.ttlv_run.proofs.coding.decode_form.Goals as goal

pub returns-in-Base64Digits-clause-within : goal.returns-in-Base64Digits-clause-within
returns-in-Base64Digits-clause-within c =
    let within = decoded_within standard c.args.digits.now c.args.bytes.now c.decode_slice_unchecked.new.output c.decode_slice_unchecked.result
    (search rules) c.decode_slice_unchecked.ensures.ok in
    (rw c.ok-in-Base64Digits.ensures.value within)

pub returns-in-UrlDigits-clause-within : goal.returns-in-UrlDigits-clause-within
returns-in-UrlDigits-clause-within c =
    let within = decoded_within url_safe c.args.digits.now c.args.bytes.now c.decode_slice_unchecked-in-UrlDigits.new.output
    c.decode_slice_unchecked-in-UrlDigits.result (search rules) c.decode_slice_unchecked-in-UrlDigits.ensures.ok in
    (rw c.ok-in-UrlDigits.ensures.value within)

pub returns-in-BareUrlDigits-clause-within : goal.returns-in-BareUrlDigits-clause-within
returns-in-BareUrlDigits-clause-within c =
    let within = decoded_within url_safe_no_pad c.args.digits.now c.args.bytes.now c.decode_slice_unchecked-in-BareUrlDigits.new.output
    c.decode_slice_unchecked-in-BareUrlDigits.result (search rules) c.decode_slice_unchecked-in-BareUrlDigits.ensures.ok in
    (rw c.ok-in-BareUrlDigits.ensures.value within)
