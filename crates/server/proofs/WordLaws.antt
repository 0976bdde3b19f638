-- What a call's words stand for depends on their kind and bucket, the bytes of the key and the two values alone.
use Rattle.std.proofs.Common.{◌≡◌, ap, ◌∙◌}
use Rattle.entries.specs.Decoded.{key_bytes, item_in}
use Rattle.server.specs.declared.Words.{Words}
use Rattle.server.specs.Views.{words_of_kind, words_by, words_in}

pub words_alike :
    (a b : Words) → a.kind ≡ b.kind → a.bucket ≡ b.bucket → key_bytes a.key ≡ key_bytes b.key
    → item_in a.expected ≡ item_in b.expected → item_in a.value ≡ item_in b.value → words_in a ≡ words_in b
unfolding words_by
words_alike a b kind bucket key expected value =
    ap (λ x. words_of_kind x a.bucket (key_bytes a.key) (item_in a.expected) (item_in a.value)) kind
    ∙ ap (λ x. words_of_kind b.kind x (key_bytes a.key) (item_in a.expected) (item_in a.value)) bucket
    ∙ ap (λ x. words_of_kind b.kind b.bucket x (item_in a.expected) (item_in a.value)) key
    ∙ ap (λ x. words_of_kind b.kind b.bucket (key_bytes b.key) x (item_in a.value)) expected
    ∙ ap (λ x. words_of_kind b.kind b.bucket (key_bytes b.key) (item_in b.expected) x) value
