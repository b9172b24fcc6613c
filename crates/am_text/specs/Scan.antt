-- What a scan of a text measures.
use Rattle.std.specs.Prelude.{ℕ, List, if◌then◌else◌, slice_index}
use Rattle.std.specs.List.{prefix_len}
use Rattle.am_text.specs.Tokens.{is_parenthesis, is_word_byte}

-- how many bytes the token in front has, where no space is in front
abbrev pub token_len : List ℕ → ℕ
token_len bs = if is_parenthesis (slice_index bs 0) then 1 else prefix_len is_word_byte bs
