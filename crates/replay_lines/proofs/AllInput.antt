-- What is answered to an input where there is always room: from the beginning that is the replay of the whole.
use Prim.Native.Nat.{ℕ}
use native.Mathlib.Omega.{arith}
use mathlib.Core.Path.{◌≡◌, refl, sym, ap, ◌∙◌}
use mathlib.Core.Bool.{Bool, true, false, cond}
use mathlib.Core.List.{List, [], ◌∷◌, ◌++◌, append-nil}
use borrow.Author.Tests.{leb-false, le-leb, lt-leb}
use lib.Dec.{eqb, leb}
use lib.ListN.{length, replicate, length-replicate}
use Rattle.client.specs.declared.Client.{Client}
use Rattle.client.specs.Record.{fresh}
use Rattle.hex_decode.specs.Lines.{start, has_begun}
use Rattle.hex_decode.specs.Decoding.{Frame, octets, malformed, decode, at_most, Held, next, after}
use Rattle.hex_encode.specs.Text.{text}
use Rattle.hex_decode.proofs.Decoding.{decoding, pushed_length}
use Rattle.frames.specs.Frames.{longest_frame, call_of, answered, answered_frame}
use Rattle.replay_lines.specs.declared.Replay.{Replay}
use Rattle.replay_lines.specs.Replay as all
use Rattle.replay_lines.specs.Replay.{lines, answers, replay}
use Rattle.replay_lines.specs.Feed.{begin, longer, reply, answer, ended}

-- what a replay answers to an input and then to its end
abbrev pub all_answers : Replay → List ℕ → List ℕ
all_answers r [] = cond (has_begun r.line) (answer r) []
all_answers r (c ∷ input) = cond (eqb c 10) (answer r ++ all_answers (ended r) input) (all_answers (longer r c) input)

-- one character more, after some
after_more : (h : Held) (cs : List ℕ) (c : ℕ) → after h (cs ++ (c ∷ [])) ≡ next (after h cs) c
after_more h [] c = refl
after_more h (x ∷ cs) c = after_more (next h x) cs c

-- the buffer keeps its length
after_length : (h : Held) (cs : List ℕ) → length (after h cs).buffer ≡ length h.buffer
after_length h [] = refl
after_length h (c ∷ cs) = after_length (next h c) cs ∙ pushed_length h.line h.buffer c

-- a frame of more octets than the longest is malformed anyway
too_long : (c : Client) (f : Frame) → answered_frame c (at_most longest_frame f) ≡ answered_frame c f
unfolding call_of
too_long c malformed = refl
too_long c (octets xs) = go (leb (length xs) longest_frame) refl
  where
    go : (t : Bool) → leb (length xs) longest_frame ≡ t → answered_frame c (cond t (octets xs) malformed) ≡ answered c (call_of xs)
    go true e = refl
    go false e = let h = leb-false (length xs) longest_frame e in rw (le-leb 25 (length xs) (omega arith), lt-leb (length xs) 25 (omega arith), le-leb 17 (length xs) (omega arith), lt-leb (length xs) 17 (omega arith), e)

-- a line and its buffer after the characters since the last line feed, and a replay with such a line
abbrev held : List ℕ → List ℕ → Held
held b cs = after (record { line = start; buffer = b }) cs

abbrev at : Client → Held → Replay
at c h = record { client = c; line = h.line; octets = h.buffer }

-- that line is answered as those characters are
same : (c : Client) (b cs : List ℕ) → length b ≡ longest_frame → reply (at c (held b cs)) ≡ all.reply c cs
same c b cs fits = ap (answered_frame c) (decoding.reads b cs ∙ ap (λ n. at_most n (decode cs)) fits) ∙ too_long c (decode cs)

-- and so are all lines of an input that goes on from there
abbrev Same : List ℕ → Type 0
Same input = (c : Client) (b cs : List ℕ) → length b ≡ longest_frame → all_answers (at c (held b cs)) input ≡ answers c (lines cs input)

same_all : (input : List ℕ) → Same input
unfolding lines answers
same_all [] c b [] fits = rw (decoding.begins b [])
same_all [] c b (x ∷ cs) fits = rw (decoding.begins b (x ∷ cs), append-nil) (ap (λ z. text z.octets) (same c b (x ∷ cs) fits))
same_all (x ∷ input) c b cs fits = go (eqb x 10) refl (same_all input)
  where
    go : (t : Bool) → eqb x 10 ≡ t → Same input → all_answers (at c (held b cs)) (x ∷ input) ≡ answers c (lines cs (x ∷ input))
    go true e f =
        let a = (held b cs).buffer in
        let r = all.reply c cs in
        rw e
        (ap (λ z. text z.octets ++ all_answers (at z.client (held a [])) input) (same c b cs fits)
        ∙ ap (λ z. text r.octets ++ z) (f r.client a [] (after_length (held b []) cs ∙ fits)))
    go false e f = rw e (ap (λ h. all_answers (at c h) input) (sym (after_more (held b []) cs x)) ∙ f c b (cs ++ (x ∷ [])) fits)

-- from the beginning no character has come yet
pub replayed : (input : List ℕ) → all_answers begin input ≡ replay input
replayed input = same_all input fresh (replicate longest_frame 0) [] (length-replicate {A = ℕ} longest_frame 0)
