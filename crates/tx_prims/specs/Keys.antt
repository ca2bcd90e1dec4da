-- What a key is.
use Rattle.std.specs.Prelude.{ℕ, Bool, ◌&&◌, ◌==◌, nat_le, List, take, drop}
use Rattle.std.specs.List.{list_all}
use Rattle.tx_prims.specs.declared.Key.{Key}

-- the text of a key: its first bytes, as many as it says
abbrev pub text_of : Key → List ℕ
text_of key = take key.len key.bytes

-- the key is a text: it says at most 24, and the bytes after the text are 0
abbrev pub is_text : Key → Bool
is_text key = nat_le key.len 24 && list_all (λ byte. byte == 0) (drop key.len key.bytes)
