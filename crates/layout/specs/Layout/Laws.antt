-- Texts that are laid out, are regular and fit are read, to the tables laid out (`layout_read`), and no others are (`read_layout`); so a text lays
-- out one pair of tables at most (`layout_unique`). What the writer writes is such a text (`written_layout`). Assumes nothing.
use Rattle.std.specs.Prelude.{ℕ, zero, suc, ◌+◌, ◌≤◌, ◌≡◌, refl, Bool, true, false, ◌⊎◌, leb, ltb, ℤ, pos, negsuc, length, drop}
use Rattle.std.proofs.Common.{ap, sym, ◌∙◌, subst, inl, inr, arith, le-leb, le-ltb, leb-true, length-append, drop_of_length-le, drop_at}
use Rattle.std.proofs.lemmas.Bool.{false≢true}
use mathlib.Core.List.Memᴰ
use mathlib.Core.List.{List, [], ◌∷◌, ◌++◌, map, flat_map, Memᴰ, map-append}
use Rattle.qbf.specs.Formula.{Prefix, listed}
use Rattle.formula.specs.Bounds.{variable_bound, text_bound}
use Rattle.formula.specs.Decimal.{decimal}
use Rattle.formula.specs.Decode.{put_first, clauses_of}
use Rattle.formula.specs.Decode.Laws.{clauses_no_zero}
use Rattle.formula.specs.Free.{free, existentials, completed}
use Rattle.formula.specs.Prefix.{prefix_words, entry_words}
use Rattle.formula.specs.Prefix.Laws.{words_length, words_rise}
use Rattle.formula.specs.Refusal.{refusal, require}
use Rattle.formula.specs.Tables.{zeros, Admitted}
use Rattle.formula.proofs.Theorems.Tables.Laws.{zeros_clauses, admitted_tables}
use Rattle.scanner.specs.Token.{is_blank, first_token, tokens_from, tokens, p_text, cnf_text}
use Rattle.formula.specs.Text.{
  read,
  refused,
  State,
  wantsP,
  wantsCnf,
  wantsV,
  wants_c,
  between_sets,
  in_set,
  clauses,
  stopped,
  open_from,
  open_clause,
  is_open,
  at_end,
  clauses_ending,
  tables_ending,
  run,
  ending,
  reading,
}
use Rattle.formula.proofs.Theorems.Text.Admits.{Sound, run_sound, ReadAdmitted, read_admitted}
use Rattle.formula.specs.Text.Distinct.{Ranged, PrefixFine}
use Rattle.formula.proofs.Theorems.Text.Distinct.{apart_distinct}
use Rattle.formula.proofs.Theorems.RoundTrip.Clauses.{among_sets}
use Rattle.formula.proofs.Theorems.RoundTrip.Laws.{written_read}
use Rattle.formula.specs.Write.{literal_text, written}
use Rattle.formula.specs.declared.refusal.Reason.TheVariants.{Oversized, NoRoom}
use Rattle.formula.specs.declared.refusal.Refusal.{Refusal}
use Rattle.scanner.specs.declared.token.Lead.TheVariants.{LineStart}
use Rattle.layout.specs.Layout.{AllBlank, Piece, laid, tokens_in, lead_text, HasTokens, QuantifierSet, set_tokens, clause_tokens, tokens_of, Layout, entries_of, closed, words_of, prefix_of_sets, Regular, Fits, LaidOut}
use Rattle.layout.specs.Layout.Pieces.{bytes_of, Split, split, laid_tokens}
use Rattle.layout.specs.Layout.Lead.{lead_first, LeadFound, leads_back}
use Rattle.layout.specs.Layout.Laid.{Told, ClausesTold, sets_told, run_told}
use Rattle.layout.specs.Layout.Reads.{Walks, walks_append, walks_run, header_walks, sets_walk, WordsRead, clauses_walk}

-- The tokens of a text are read as such: the header's `p`, where the lines and blanks end, is the first.
p_solid : is_blank 112 ≡ false
unfolding is_blank
p_solid = refl

tokens_read : {text : List ℕ} {ts : List (List ℕ)} → HasTokens text (p_text ∷ ts) → bytes_of (tokens text) ≡ p_text ∷ ts
unfolding laid
tokens_read {text} {ts} T = rw T.whole (go T.pieces refl T.its_tokens)
  where
    lead : List ℕ
    lead = lead_text T.lines T.indent

    first : (bs : List ℕ) → first_token (lead ++ (112 ∷ bs)) ≡ length lead
    first bs =
        lead_first 0 T.lines T.indent 112 bs T.lead T.indented.0 T.indented.1 p_solid (λ e. omega (arith, e)) ∙ omega arith

    go : (ps : List Piece) → T.pieces ≡ ps → tokens_in ps ≡ p_text ∷ ts → bytes_of (tokens (lead ++ laid T.pieces)) ≡ p_text ∷ ts
    go [] q e = let z : ◌≡◌ {A = ℕ} 0 1 = cc in absurd (omega arith)
    go (p ∷ ps) q e =
        let word : p.token ≡ p_text = cc in
        let whole : laid (p ∷ ps) ≡ 112 ∷ (p.gap ++ laid ps) = rw word in
        let at : first_token (lead ++ laid T.pieces) ≡ length lead = rw (q, whole) (first (p.gap ++ laid ps)) in
        rw (at, drop_at lead (laid T.pieces) (length lead) refl) (laid_tokens (length lead) T.pieces T.parted ∙ T.its_tokens)

-- A text that is laid out, is regular and fits is read to the tables that it lays out.
pub layout_read :
    {text : List ℕ} {v : ℕ} {sets : List QuantifierSet} {Cs : List (List ℤ)} → Layout text v sets Cs → (prefixRoom clauseRoom : ℕ) → Regular v sets Cs → Fits text v sets Cs prefixRoom clauseRoom
    → reading text prefixRoom clauseRoom ≡ read (prefix_of_sets v sets Cs) (words_of Cs) (length Cs)
unfolding reading open_from zeros
layout_read {text} {v} {sets} {Cs} L prefixRoom clauseRoom R F =
    rw (le-leb (length text) text_bound F.short, ran)
    (W.among.ends text
    ∙ rw (W.shut, W.count, le-ltb (length Cs) (length Cs) (omega arith), le-leb (length (prefix_of_sets v sets Cs)) prefixRoom F.prefix_room))
  where
    added : Prefix
    added = existentials (free v (entries_of sets) (words_of Cs))

    room : entry_words (length (entries_of sets)) ≤ prefixRoom
    room =
        omega (arith, F.prefix_room, words_length (added ++ entries_of sets), words_rise (length (entries_of sets)) (length (added ++ entries_of sets)) (omega (arith, length-append added (entries_of sets))))

    W : WordsRead prefixRoom clauseRoom v (length Cs) (entries_of sets) (between_sets v (length Cs) (entries_of sets)) (flat_map clause_tokens Cs) (words_of Cs) (length Cs)
    W =
        clauses_walk prefixRoom clauseRoom v (length Cs) (entries_of sets) (between_sets v (length Cs) (entries_of sets)) [] Cs (among_sets prefixRoom clauseRoom v (length Cs) (entries_of sets))
        (record { shut = refl; count = omega arith; words = omega (arith, F.words); room = omega (arith, F.clause_room); its_clauses = L.its_clauses; range = R.literal_range; once = R.once_in_clause })

    walks : Walks prefixRoom clauseRoom wantsP (tokens_of v sets Cs) W.after
    walks =
        walks_append prefixRoom clauseRoom wantsP (between_sets v (length Cs) []) W.after (p_text ∷ cnf_text ∷ decimal v ∷ decimal (length Cs) ∷ []) (flat_map set_tokens sets ++ flat_map clause_tokens Cs)
        (header_walks prefixRoom clauseRoom v (length Cs) F.variables F.count)
        (walks_append prefixRoom clauseRoom (between_sets v (length Cs) []) (between_sets v (length Cs) (entries_of sets)) W.after (flat_map set_tokens sets) (flat_map clause_tokens Cs)
        (sets_walk prefixRoom clauseRoom v (length Cs) [] sets L.its_sets R.listed_range R.listed_once room)
        W.walks)

    ran : run prefixRoom clauseRoom wantsP (tokens text) ≡ W.after
    ran = walks_run prefixRoom clauseRoom wantsP W.after (tokens text) (subst (λ (bs : List (List ℕ)). Walks prefixRoom clauseRoom wantsP bs W.after) (sym (tokens_read L.in_text_lem)) walks)

-- So a text lays out one pair of tables at most.
pub layout_unique :
    {text : List ℕ} {v v' : ℕ} {sets sets' : List QuantifierSet} {Cs Cs' : List (List ℤ)} (prefixRoom clauseRoom : ℕ)
    → Layout text v sets Cs → Regular v sets Cs → Fits text v sets Cs prefixRoom clauseRoom
    → Layout text v' sets' Cs' → Regular v' sets' Cs' → Fits text v' sets' Cs' prefixRoom clauseRoom
    → (prefix_of_sets v sets Cs ≡ prefix_of_sets v' sets' Cs') × (words_of Cs ≡ words_of Cs')
layout_unique {text} {v} {v'} {sets} {sets'} {Cs} {Cs'} prefixRoom clauseRoom L R F L' R' F' =
    let e : read (prefix_of_sets v sets Cs) (words_of Cs) (length Cs) ≡ read (prefix_of_sets v' sets' Cs') (words_of Cs') (length Cs') =
    sym (layout_read L prefixRoom clauseRoom R F) ∙ layout_read L' prefixRoom clauseRoom R' F' in
    (cc, cc)

-- The converse. The pieces of a text that has a token.
no_gap : (first : ℕ) (rest : List ℕ) → is_blank first ≡ false → (S : Split (first ∷ rest)) → S.gap ≡ []
no_gap first rest s S = go S.gap S.whole S.blank
  where
    go : (gap : List ℕ) → first ∷ rest ≡ gap ++ laid S.pieces → AllBlank gap → gap ≡ []
    go [] e a = refl
    go (g ∷ gap) e a =
        let same : first ≡ g = cc in
        absurd (false≢true (sym s ∙ rw same a.0))

found_tokens : (text : List ℕ) → LeadFound [] 0 (first_token text) text → HasTokens text (bytes_of (tokens text))
found_tokens text F =
    let S = split (F.first ∷ F.rest) in
    let lead : List ℕ = lead_text F.lines F.indent in
    let none_left : S.gap ≡ [] = no_gap F.first F.rest F.solid S in
    let body : F.first ∷ F.rest ≡ laid S.pieces = S.whole ∙ rw none_left in
    let at : first_token text ≡ length lead = omega (arith, F.here) in
    let rest : drop (first_token text) text ≡ F.first ∷ F.rest = rw at (rw F.whole (drop_at lead (F.first ∷ F.rest) (length lead) refl)) in
    record {
      lines = F.lines;
      indent = F.indent;
      pieces = S.pieces;
      lead = F.lead;
      indented = F.indented;
      parted = S.parted;
      whole = F.whole ∙ ap {B = List ℕ} (λ r. lead ++ r) body;
      its_tokens = sym (ap (λ (bs : List ℕ). bytes_of (tokens_from (first_token text) [] bs)) rest ∙ S.its_tokens (first_token text) []);
    }

-- A text without a token has no header.
nothing_found : (text : List ℕ) → first_token text ≡ 0 + length text → bytes_of (tokens text) ≡ []
unfolding tokens_from
nothing_found text e =
    let long : length text ≤ first_token text = omega (arith, e) in
    let all : drop (first_token text) text ≡ [] = drop_of_length-le text long in
    rw all

some_tokens : (text t : List ℕ) (ts : List (List ℕ)) → bytes_of (tokens text) ≡ t ∷ ts → HasTokens text (t ∷ ts)
some_tokens text t ts e = go (leads_back LineStart [] refl 0 text)
  where
    go : (first_token text ≡ 0 + length text) ⊎ LeadFound [] 0 (first_token text) text → HasTokens text (t ∷ ts)
    go (inl q) = let z : ◌≡◌ {A = List (List ℕ)} [] (t ∷ ts) = sym (nothing_found text q) ∙ e in let y : ◌≡◌ {A = ℕ} 0 1 = cc in absurd (omega arith)
    go (inr F) = rw (← e) (found_tokens text F)

-- Words whose every clause is closed are those of their clauses, and so are their tokens.
put_words : (w : ℤ) (ws : List ℤ) → length (put_first w (clauses_of ws)) ≡ zeros ws → (length (clauses_of ws) ≡ zeros ws → words_of (clauses_of ws) ≡ ws) → words_of (put_first w (clauses_of ws)) ≡ w ∷ ws
unfolding flat_map
put_words w ws h later = go (clauses_of ws) (zeros_clauses ws) h later
  where
    go : (Cs : List (List ℤ)) → zeros ws ≤ length Cs → length (put_first w Cs) ≡ zeros ws → (length Cs ≡ zeros ws → words_of Cs ≡ ws) → words_of (put_first w Cs) ≡ w ∷ ws
    go [] l k f = absurd (omega (arith, l, k))
    go (C ∷ Cs) l k f = ap {B = List ℤ} (λ r. w ∷ r) (f k)

words_of_clauses : (ws : List ℤ) → length (clauses_of ws) ≡ zeros ws → words_of (clauses_of ws) ≡ ws
unfolding clauses_of zeros flat_map
words_of_clauses [] h = refl
words_of_clauses (pos zero ∷ ws) h = ap {B = List ℤ} (λ r. pos 0 ∷ r) (words_of_clauses ws (omega (arith, h)))
words_of_clauses (pos (suc n) ∷ ws) h = put_words (pos (suc n)) ws h (words_of_clauses ws)
words_of_clauses (negsuc n ∷ ws) h = put_words (negsuc n) ws h (words_of_clauses ws)

clause_tokens_lem : (Cs : List (List ℤ)) → map literal_text (words_of Cs) ≡ flat_map clause_tokens Cs
unfolding flat_map literal_text
clause_tokens_lem [] = refl
clause_tokens_lem (C ∷ Cs) = rw (map-append literal_text (closed C) (words_of Cs), map-append literal_text C (pos 0 ∷ []), clause_tokens_lem Cs)

laid_same : (text : List ℕ) (rp rc : ℕ) (p w q u : List ℤ) (m n : ℕ) → read p w m ≡ read q u n → LaidOut text p w m rp rc → LaidOut text q u n rp rc
laid_same text rp rc p w q u m n e L =
    let a : p ≡ q = cc in
    let b : w ≡ u = cc in
    let d : m ≡ n = cc in
    rw (← a, ← b, ← d) L

not_read : (text : List ℕ) (rp rc : ℕ) (r : Refusal) (p w : List ℤ) (n : ℕ) → refused r ≡ read p w n → LaidOut text p w n rp rc
not_read text rp rc r p w n e = let z : ◌≡◌ {A = ℕ} 0 1 = cc in absurd (omega arith)

ranged_member : (v : ℕ) (xs : List ℕ) → Ranged v xs → (n : ℕ) → Memᴰ n xs → n ≤ v
ranged_member v [] r n m = absurd (Memᴰ.not-nil m)
ranged_member v (x ∷ xs) r n m = go (Memᴰ.cases_cons m) (ranged_member v xs r.2 n)
  where
    go : (n ≡ x) ⊎ Memᴰ n xs → (Memᴰ n xs → n ≤ v) → n ≤ v
    go (inl e) later = omega (arith, e, r.1)
    go (inr k) later = later k

module _ (text : List ℕ) (rp rc : ℕ) (short : length text ≤ text_bound) where
  -- The tokens told make a layout, where the tables are admitted.
  told_laid :
      (v c : ℕ) (P : Prefix) (words : List ℤ) (T : ClausesTold rc v c P words (bytes_of (tokens text))) → v ≤ variable_bound → PrefixFine v (entries_of T.sets)
      → ReadAdmitted (prefix_words (completed v (entries_of T.sets) words)) words c → length (prefix_words (completed v (entries_of T.sets) words)) ≤ rp
      → LaidOut text (prefix_words (completed v (entries_of T.sets) words)) words c rp rc
  told_laid v c P words T few fine a room =
      let E = entries_of T.sets in
      let Cs = clauses_of words in
      let t = admitted_tables (prefix_words (completed v E words)) words a.admitted in
      let W : words_of Cs ≡ words = words_of_clauses words t.closed in
      let count : c ≡ length Cs = a.counted ∙ sym t.closed in
      let told : bytes_of (tokens text) ≡ tokens_of v T.sets Cs = T.told ∙ rw (← clause_tokens_lem Cs, W, count) in
      record {
        v = v;
        sets = T.sets;
        clauses = Cs;
        layout =
            record {
              in_text_lem = some_tokens text p_text (cnf_text ∷ decimal v ∷ decimal (length Cs) ∷ (flat_map set_tokens T.sets ++ flat_map clause_tokens Cs)) told;
              its_sets = T.its_sets;
              its_clauses = clauses_no_zero words;
            };
        regular =
            record {
              listed_range = ranged_member v (listed E) fine.ranged;
              literal_range = rw W T.range;
              listed_once = apart_distinct (listed E) fine.apart;
              once_in_clause = t.clause_distinct;
            };
        fits =
            record {
              short = short;
              variables = few;
              count = omega (arith, t.closed, t.count);
              words = rw W t.clauses_length;
              clause_room = rw W T.room;
              prefix_room = rw W room;
            };
        its_prefix = rw W;
        its_words = sym W;
        its_count = count;
      }

  module _ (p w : List ℤ) (n : ℕ) (whole : reading text rp rc ≡ read p w n) where
    clauses_laid :
        (v c : ℕ) (P : Prefix) (words : List ℤ) → ClausesTold rc v c P words (bytes_of (tokens text)) → v ≤ variable_bound → PrefixFine v P → tables_ending rp text v c P words ≡ read p w n
        → LaidOut text p w n rp rc
    clauses_laid v c P words T few fine e = go (is_open (open_clause words)) (ltb (zeros words) c) (leb (length tables) rp) refl (rw T.entries at e)
      where
        tables : List ℤ
        tables = prefix_words (completed v (entries_of T.sets) words)

        go : (o m f : Bool) → leb (length tables) rp ≡ f → clauses_ending text o m (require f (refused (at_end text NoRoom)) (read tables words c)) ≡ read p w n → LaidOut text p w n rp rc
        go true m f g k = not_read text rp rc _ p w n k
        go false true f g k = not_read text rp rc _ p w n k
        go false false false g k = not_read text rp rc _ p w n k
        go false false true g k =
            laid_same text rp rc tables words p w c n k
            (told_laid v c P words T few (rw T.entries at fine) (read_admitted text rp rc tables words c (whole ∙ sym k)) (leb-true (length tables) rp g))

    ending_laid : (s : State) → Told rc s (bytes_of (tokens text)) → Sound s → ending rp text s ≡ read p w n → LaidOut text p w n rp rc
    unfolding ending
    ending_laid wantsP t h e = not_read text rp rc _ p w n e
    ending_laid wantsCnf t h e = not_read text rp rc _ p w n e
    ending_laid wantsV t h e = not_read text rp rc _ p w n e
    ending_laid (wants_c v) t h e = not_read text rp rc _ p w n e
    ending_laid (between_sets v c P) t h e =
        clauses_laid v c P [] (sets_told rc v c P (bytes_of (tokens text)) t) h.0 h.2 e
    ending_laid (in_set v c q filled P) t h e = not_read text rp rc _ p w n e
    ending_laid (clauses v c P words) t h e = clauses_laid v c P words t h.0 h.2 e
    ending_laid (stopped q r) t h e = not_read text rp rc _ p w n e

-- Every text that is read is laid out, is regular and fits; what is read is what it lays out.
pub read_layout : (text : List ℕ) (prefixRoom clauseRoom : ℕ) (prefix words : List ℤ) (count : ℕ) → reading text prefixRoom clauseRoom ≡ read prefix words count → LaidOut text prefix words count prefixRoom clauseRoom
unfolding reading
read_layout text rp rc prefix words count e = go (leb (length text) text_bound) refl e
  where
    go : (b : Bool) → leb (length text) text_bound ≡ b → require b (refused (refusal Oversized 0)) (ending rp text (run rp rc wantsP (tokens text))) ≡ read prefix words count → LaidOut text prefix words count rp rc
    go true l f =
        ending_laid text rp rc (leb-true (length text) text_bound l) prefix words count e (run rp rc wantsP (tokens text)) (run_told rp rc wantsP (tokens text) [] refl) (run_sound rp rc wantsP (tokens text) tt) f
    go false l f = not_read text rp rc _ prefix words count f

-- What the writer writes of tables that pass the check is such a text.
pub written_layout : (p c : List ℤ) → Admitted p c → LaidOut (written p c) p c (zeros c) (length p) (length c)
written_layout p c a = read_layout (written p c) (length p) (length c) p c (zeros c) (written_read p c (length p) (length c) a (omega arith) (omega arith))
