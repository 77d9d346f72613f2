-- The answers of files in turn.
use Rattle.std.proofs.Common.{◌≡◌, ◌≢◌, ℕ, ◌+◌, ◌<◌, ◌≤◌, max, Bool, List, [], ◌∷◌, ◌++◌, length, map, take, drop, get_or, nat_lt, take_all, Option, Some, refl, sym, ap, subst, ◌∙◌, append_assoc, append-nil, take-append-drop, arith}
use Rattle.std.proofs.KnownBytes.{Appends-nil, Appends-trans}
use Rattle.std.proofs.lemmas.List.{drop_more, length-map, map-append, take_more}
use Rattle.std.specs.Io.KnownBytes.{Appends}
use Rattle.ulfm_forms.specs.declared.form.Form.{Form}
use Rattle.ulfm_command_line.specs.declared.command.Wanted.{Wanted}
use Rattle.ulfm_command_line.specs.Wish.{WishView}
use Rattle.ulfm_program.specs.Replies.{IsReplyIn}
use Rattle.ulfm_program.specs.Files.{GetsAnswer, AreAnswers, none, first, ended, GetsAnswers, IsReplyOf, head_of}

same_answers : (IsReply : List ℕ → ℕ → List ℕ → Type 0) (bytes_of : List ℕ → Option (List ℕ)) (has_head : Bool) (a b : List (List ℕ)) (m n : ℕ) (x y : List ℕ)
    → a ≡ b → m ≡ n → x ≡ y → AreAnswers IsReply bytes_of has_head a m x → AreAnswers IsReply bytes_of has_head b n y
same_answers IsReply bytes_of has_head a b m n x y p q r h =
    subst (λ files. AreAnswers IsReply bytes_of has_head files n y) p (subst (λ k. AreAnswers IsReply bytes_of has_head a k y) q (subst (λ text. AreAnswers IsReply bytes_of has_head a m text) r h))

-- the writer got the answers of these files, none of which the output cut off: those of later files go on from there
pub record Wrote (IsReply : List ℕ → ℕ → List ℕ → Type 0) (bytes_of : List ℕ → Option (List ℕ)) (has_head : Bool) (files : List (List ℕ)) (old new : Option (List ℕ)) (status : ℕ) : Type 0 where
  pub text : List ℕ
  pub leads : (later : List (List ℕ)) (others : ℕ) (below : List ℕ) → AreAnswers IsReply bytes_of has_head later others below → AreAnswers IsReply bytes_of has_head (files ++ later) (max status others) (text ++ below)
  pub written : Appends old new text

pub wrote_none : (IsReply : List ℕ → ℕ → List ℕ → Type 0) (bytes_of : List ℕ → Option (List ℕ)) (has_head : Bool) (old : Option (List ℕ)) → Wrote IsReply bytes_of has_head [] old old 0
wrote_none IsReply bytes_of has_head old = record {
  text = [];
  leads = λ later others below h. same_answers IsReply bytes_of has_head later later others (max 0 others) below below refl (omega arith) refl h;
  written = Appends-nil old;
}

pub wrote_more : (IsReply : List ℕ → ℕ → List ℕ → Type 0) (bytes_of : List ℕ → Option (List ℕ)) (has_head : Bool) (files next : List (List ℕ)) (file : List ℕ) (old mid new : Option (List ℕ)) (status its greatest : ℕ)
    → next ≡ files ++ file ∷ [] → greatest ≡ max status its → its ≢ 4 → Wrote IsReply bytes_of has_head files old mid status → GetsAnswer (IsReplyOf IsReply (bytes_of file)) (head_of has_head file) mid new its
    → Wrote IsReply bytes_of has_head next old new greatest
wrote_more IsReply bytes_of has_head files next file old mid new status its greatest more most whole before a = record {
  text = before.text ++ a.text;
  leads = λ later others below h.
      let tops : max status (max its others) ≡ max greatest others = omega (arith, most) in
      same_answers IsReply bytes_of has_head (files ++ file ∷ later) (next ++ later) (max status (max its others)) (max greatest others) (before.text ++ (a.text ++ below)) ((before.text ++ a.text) ++ below)
      (sym (ap (λ ks. ks ++ later) more ∙ append_assoc files (file ∷ []) later)) tops (sym (append_assoc before.text a.text below))
      (before.leads (file ∷ later) (max its others) (a.text ++ below) (first file later its others a.text below a.answer whole h));
  written = Appends-trans old mid new before.text a.text before.written a.written;
}

-- the last file was answered
pub wrote_all : (IsReply : List ℕ → ℕ → List ℕ → Type 0) (bytes_of : List ℕ → Option (List ℕ)) (has_head : Bool) (files all : List (List ℕ)) (old new : Option (List ℕ)) (status : ℕ)
    → all ≡ files → has_head ≡ nat_lt 1 (length all) → Wrote IsReply bytes_of has_head files old new status → GetsAnswers IsReply bytes_of all old new status
wrote_all IsReply bytes_of has_head files all old new status whole several w =
    let most : max status 0 ≡ status = omega arith in
    record {
      text = w.text;
      answers = subst (λ h. AreAnswers IsReply bytes_of h all status w.text) several
          (same_answers IsReply bytes_of has_head (files ++ []) all (max status 0) status (w.text ++ []) w.text (append-nil files ∙ sym whole) most (append-nil w.text) (w.leads [] 0 [] none));
      written = w.written;
    }

-- the output failed at a file
pub wrote_part : (IsReply : List ℕ → ℕ → List ℕ → Type 0) (bytes_of : List ℕ → Option (List ℕ)) (has_head : Bool) (files rest all : List (List ℕ)) (file : List ℕ) (old mid new : Option (List ℕ)) (status its greatest : ℕ)
    → all ≡ files ++ file ∷ rest → greatest ≡ max status its → its ≡ 4 → has_head ≡ nat_lt 1 (length all)
    → Wrote IsReply bytes_of has_head files old mid status → GetsAnswer (IsReplyOf IsReply (bytes_of file)) (head_of has_head file) mid new its → GetsAnswers IsReply bytes_of all old new greatest
wrote_part IsReply bytes_of has_head files rest all file old mid new status its greatest whole most four several w a =
    let cut : GetsAnswer (IsReplyOf IsReply (bytes_of file)) (head_of has_head file) mid new 4 = subst (λ k. GetsAnswer (IsReplyOf IsReply (bytes_of file)) (head_of has_head file) mid new k) four a in
    record {
      text = w.text ++ cut.text;
      answers = subst (λ h. AreAnswers IsReply bytes_of h all greatest (w.text ++ cut.text)) several
          (same_answers IsReply bytes_of has_head (files ++ file ∷ rest) all (max status 4) greatest (w.text ++ cut.text) (w.text ++ cut.text) (sym whole) (ap (max status) (sym four) ∙ sym most) refl
          (w.leads (file ∷ rest) 4 cut.text (ended file rest cut.text cut.answer)));
      written = Appends-trans old mid new w.text cut.text w.written cut.written;
    }

-- the first items and the next one
pub next_item : {X : Type 0} (f : X → List ℕ) (xs : List X) (i : ℕ) (d : X) → i < length xs → map f (take (i + 1) xs) ≡ map f (take i xs) ++ f (get_or xs i d) ∷ []
next_item f xs i d h = ap (map f) (take_more xs i d h) ∙ map-append f (take i xs) (get_or xs i d ∷ [])

-- the first items, the next one, and the rest
pub items_at : {X : Type 0} (f : X → List ℕ) (xs ys : List X) (i : ℕ) (d : X) → xs ≡ ys → i < length xs → map f ys ≡ map f (take i xs) ++ f (get_or xs i d) ∷ map f (drop (i + 1) xs)
items_at f xs ys i d same h =
    ap (map f) (sym same) ∙ sym (ap (map f) (take-append-drop i xs)) ∙ ap (λ zs. map f (take i xs ++ zs)) (drop_more xs i d h) ∙ map-append f (take i xs) (get_or xs i d ∷ drop (i + 1) xs)

-- the first items are all
pub items_all : {X : Type 0} (f : X → List ℕ) (xs ys : List X) (i : ℕ) → xs ≡ ys → length xs ≤ i → map f ys ≡ map f (take i xs)
items_all f xs ys i same h = ap (map f) (sym same ∙ sym (take_all i xs h))

-- there are several items
pub several : {X : Type 0} (f : X → List ℕ) (xs ys : List X) → xs ≡ ys → nat_lt 1 (length xs) ≡ nat_lt 1 (length (map f ys))
several f xs ys same = ap (λ k. nat_lt 1 k) (ap length same ∙ sym (length-map ys f))

-- the answers to what was read from the words are those to what they ask for
pub answers_asked : (bytes_of : List ℕ → Option (List ℕ)) (form read_form : Form) (wish read_wish : WishView) (files read_files : List (List ℕ)) (found : Option Wanted) (wanted read : Wanted) (old new : Option (List ℕ)) (status : ℕ)
    → read_form ≡ form → read_wish ≡ wish → read_files ≡ files → found ≡ Some read → found ≡ Some wanted
    → GetsAnswers (IsReplyIn read_form read_wish read) bytes_of read_files old new status → GetsAnswers (IsReplyIn form wish wanted) bytes_of files old new status
answers_asked bytes_of form read_form wish read_wish files read_files found wanted read old new status f s l r w h =
    let same : read ≡ wanted = cc in
    subst (λ k. GetsAnswers (IsReplyIn form wish k) bytes_of files old new status) same
    (subst (λ k. GetsAnswers (IsReplyIn form wish read) bytes_of k old new status) l
    (subst (λ k. GetsAnswers (IsReplyIn form k read) bytes_of read_files old new status) s
    (subst (λ k. GetsAnswers (IsReplyIn k read_wish read) bytes_of read_files old new status) f h)))
