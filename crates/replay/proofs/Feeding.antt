-- Feeding block after block comes to the replay of the whole.
use Rattle.std.proofs.Common.{ℕ, ◌≤◌, ◌≡◌, Bool, true, false, List, [], ◌∷◌, ◌++◌, length, take, drop, Option, None, Some, IfSome, refl, sym, ap, ◌∙◌, arith, append_assoc}
use Rattle.std.specs.Io.KnownBytes.{Keeps, Appends, Consumes, IsAtEnd}
use Rattle.std.proofs.lemmas.List.{append-nil, drop-append-le}
use Rattle.std.proofs.Math.Seq.{take-append_seam}
use Rattle.hex_decode.specs.Lines.{has_begun}
use Rattle.replay_lines.specs.declared.Replay.{Replay}
use Rattle.replay_lines.specs.Replay.{replay}
use Rattle.replay_lines.specs.declared.Fed.{Fed}
use Rattle.replay_lines.specs.Feed.{longest_line, begin, Ran, ran, ending, fed, put}
use Rattle.replay_lines.specs.Pieces.{Piece, Replayed, take_piece, take_pieces}
use Rattle.replay_lines.proofs.Pieces.{pieces}
use Rattle.replay.specs.Feeding.{Feeds, Answers, AnswersRead, ReplaysRead}

take_pieces-append : (f : Replayed) (ps qs : List Piece) → take_pieces f (ps ++ qs) ≡ take_pieces (take_pieces f ps) qs
take_pieces-append f [] qs = refl
take_pieces-append f (p ∷ ps) qs = take_pieces-append (take_piece f p) ps qs

pub feeds_nothing : (r : Replay) (input : List ℕ) → Feeds r input r input []
feeds_nothing r input = record { pieces = []; taken = λ rest put. simp append-nil }

-- one more call, which is offered all that is left
pub feeds_more : {r r' : Replay} {input left out : List ℕ} (room : ℕ) → Feeds r input r' left out →
    Feeds r input (ran r' left room).replay (drop (ran r' left room).consumed left) (out ++ (ran r' left room).output)
feeds_more {r} {r'} {input} {left} {out} room h = record {
  pieces = h.pieces ++ (record { offered = length left; room = room } ∷ []);
  taken = λ rest put.
      take_pieces-append (record { replay = r; left = input ++ rest; written = put }) h.pieces (record { offered = length left; room = room } ∷ [])
      ∙ ap (λ f. take_piece f (record { offered = length left; room = room })) (h.taken rest put)
      ∙ step rest put;
}
  where
    step : (rest put : List ℕ) →
        take_piece (record { replay = r'; left = left ++ rest; written = put ++ out }) (record { offered = length left; room = room })
        ≡ record { replay = (ran r' left room).replay; left = drop (ran r' left room).consumed left ++ rest; written = put ++ (out ++ (ran r' left room).output) }
    step rest put = let w = (pieces.within r' left room).0 in simp (take-append_seam, append_assoc) (rw (drop-append-le (ran r' left room).consumed left rest w) refl)

-- one input after another
pub feeds_both : {r r' r'' : Replay} {a b out out' : List ℕ} → Feeds r a r' [] out → Feeds r' b r'' [] out' → Feeds r (a ++ b) r'' [] (out ++ out')
feeds_both {r} {r'} {r''} {a} {b} {out} {out'} h k = record {
  pieces = h.pieces ++ k.pieces;
  taken = λ rest put.
      take_pieces-append (record { replay = r; left = a ++ b ++ rest; written = put }) h.pieces k.pieces
      ∙ ap (λ l. take_pieces (take_pieces (record { replay = r; left = l; written = put }) h.pieces) k.pieces) (append_assoc a b rest)
      ∙ ap (λ f. take_pieces f k.pieces) (h.taken (b ++ rest) put)
      ∙ k.taken rest (put ++ out)
      ∙ ap (λ w. record { replay = r''; left = rest; written = w }) (append_assoc put out out');
}

takes_end : (r : Replay) (room : ℕ) → longest_line ≤ room → (ran r (ending r) room).consumed ≡ length (ending r)
takes_end r room h = go (has_begun r.line) refl
  where
    go : (b : Bool) → has_begun r.line ≡ b → (ran r (ending r) room).consumed ≡ length (ending r)
    go true e = rw e (let w = (pieces.within r (10 ∷ []) room).0 in let t = pieces.goes_on r 10 [] room h in omega arith)
    go false e = rw e (let w = (pieces.within r [] room).0 in omega arith)

-- the whole input, and then its end
pub feeds_all : {r : Replay} {input out : List ℕ} (room : ℕ) → longest_line ≤ room → Feeds begin input r [] out → out ++ (ran r (ending r) room).output ≡ replay input
feeds_all {r} {input} {out} room h k = done (take_pieces (record { replay = begin; left = input; written = [] }) k.pieces) whole
    (pieces.all_answers input k.pieces room)
  where
    whole : take_pieces (record { replay = begin; left = input; written = [] }) k.pieces ≡ record { replay = r; left = []; written = out }
    whole = rw append-nil at (k.taken [] [])

    done : (f : Replayed) → f ≡ record { replay = r; left = []; written = out }
        → (f.left ≡ [] → (ran f.replay (ending f.replay) room).consumed ≡ length (ending f.replay) → f.written ++ (ran f.replay (ending f.replay) room).output ≡ replay input)
        → out ++ (ran r (ending r) room).output ≡ replay input
    done f e g = rw e at g refl (takes_end r room h)

pub appends_nothing : (known : Option (List ℕ)) → Appends known known []
appends_nothing None = tt
appends_nothing (Some xs) = sym (append-nil xs)

pub appends_both : (a b c : Option (List ℕ)) (xs ys : List ℕ) → Appends a b xs → Appends b c ys → Appends a c (xs ++ ys)
appends_both None b c xs ys h k = tt
appends_both (Some a) None c xs ys h k = elim h [ ]
appends_both (Some a) (Some b) None xs ys h k = elim k [ ]
appends_both (Some a) (Some b) (Some c) xs ys h k = k ∙ ap (λ l. l ++ ys) h ∙ append_assoc a xs ys

pub consumes_nothing : (known known' : Option (List ℕ)) → Keeps known known' → Consumes known known' []
consumes_nothing None known' h = tt
consumes_nothing (Some xs) None h = elim h [ ]
consumes_nothing (Some xs) (Some ys) h = sym h

pub consumes_both : (a b c : Option (List ℕ)) (xs ys : List ℕ) → Consumes a b xs → Consumes b c ys → Consumes a c (xs ++ ys)
consumes_both None b c xs ys h k = tt
consumes_both (Some a) None c xs ys h k = elim h [ ]
consumes_both (Some a) (Some b) None xs ys h k = elim k [ ]
consumes_both (Some a) (Some b) (Some c) xs ys h k = h ∙ ap (λ l. xs ++ l) k ∙ sym (append_assoc xs ys c)

-- a call wrote what stands at the start of its output
pub written_part : (x : Ran) (f : Fed) (buffer buffer' : List ℕ) → f ≡ fed x → buffer' ≡ put x buffer → take f.written buffer' ≡ x.output
written_part x f buffer buffer' e p = rw (e, p) (take-append_seam x.output (drop (length x.output) buffer))

-- a turn of the loop, which writes what the call put into its output
pub turn : (r : Replay) (left buffer : List ℕ) (room : ℕ) {start : Replay} {input buffer' : List ℕ} {f : Fed} {a b c : Option (List ℕ)} → f ≡ fed (ran r left room) →
    buffer' ≡ put (ran r left room) buffer → Answers start input r left a b → Appends b c (take f.written buffer') → Answers start input f.replay (drop f.consumed left) a c
turn r left buffer room {buffer'} {f} {a} {b} {c} e p h w = rw e (record {
  out = h.out ++ (ran r left room).output;
  fed = feeds_more room h.fed;
  wrote = appends_both a b c h.out (ran r left room).output h.wrote (rw (written_part (ran r left room) f buffer buffer' e p) at w);
})

-- a read that gave nothing
pub reads_nothing : (r : Replay) (unread unread' written : Option (List ℕ)) → Keeps unread unread' → AnswersRead r r unread unread' written written
reads_nothing r unread unread' written h = record {
  input = [];
  read = consumes_nothing unread unread' h;
  answered = record { out = []; fed = feeds_nothing r []; wrote = appends_nothing written };
}

-- one turn after another
pub reads_both : {r r' r'' : Replay} {unread unread' unread'' written written' written'' : Option (List ℕ)} →
    AnswersRead r r' unread unread' written written' → AnswersRead r' r'' unread' unread'' written' written'' → AnswersRead r r'' unread unread'' written written''
reads_both {r} {r'} {r''} {unread} {unread'} {unread''} {written} {written'} {written''} h k = record {
  input = h.input ++ k.input;
  read = consumes_both unread unread' unread'' h.input k.input h.read k.read;
  answered = record {
    out = h.answered.out ++ k.answered.out;
    fed = feeds_both h.answered.fed k.answered.fed;
    wrote = appends_both written written' written'' h.answered.out k.answered.out h.answered.wrote k.answered.wrote;
  };
}

-- what was read is replayed once its end is answered too
pub replayed : (r : Replay) (unread unread' written written' written'' : Option (List ℕ)) (room : ℕ) → longest_line ≤ room →
    AnswersRead begin r unread unread' written written' → Appends written' written'' (ran r (ending r) room).output → ReplaysRead unread unread' written written''
replayed r unread unread' written written' written'' room h t w = record {
  input = t.input;
  read = t.read;
  wrote = rw (feeds_all room h t.answered.fed) at (appends_both written written' written'' t.answered.out (ran r (ending r) room).output t.answered.wrote w);
}

pub replayed_whole : (unread unread' written written' : Option (List ℕ)) → ReplaysRead unread unread' written written' → IsAtEnd unread' →
    IfSome unread (λ input. Appends written written' (replay input))
replayed_whole None unread written written' h e = tt
replayed_whole (Some xs) None written written' h e = elim h.read [ ]
replayed_whole (Some xs) (Some ys) written written' h e = rw (h.read, e, append-nil) h.wrote
