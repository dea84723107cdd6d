-- What is written block by block is the translation of all that is read.
use Rattle.std.proofs.Common.{◌≡◌, ◌≢◌, inl, ℕ, ◌+◌, ◌≤◌, false, List, [], ◌++◌, length, Some, None, refl, ap, sym, ◌∙◌, subst, append_assoc, arith}
use Rattle.std.specs.Io.KnownBytes.{Appends, Consumes, Keeps, IsAtEnd}
use Rattle.std.proofs.KnownBytes.{Appends-nil, Appends-trans, Consumes-nil, Consumes-trans}
use Rattle.std.proofs.lemmas.List.{append-nil}
use Rattle.asn1_model.specs.Schema.{Schema}
use Rattle.asn1_model.specs.Rules.{Rules}
use Rattle.asn1_laws_across.specs.Relayed.{RelaysFront, Relays}
use Rattle.asn1_laws_across.proofs.Relayed.{goes_on, joins, longer}
use Rattle.asn1_relay_core.specs.declared.codec.Codec.{Codec}
use Rattle.asn1_relay_core.specs.Coding.{rules_of}
use Rattle.asn1_relay_core.specs.declared.fault.RelayFault.{RelayFault}
use Rattle.asn1_relay_core.specs.declared.running.RunFault.{RunFault}
use Rattle.asn1_relay_core.specs.declared.running.RunFault.TheVariants as run
use Rattle.asn1_relay_core.specs.Relaying.{Relaying, capped, kind_of_stop, onwards, end_fault}
use Rattle.asn1_relay_core.specs.Running.{Ends, Moves, Fails, block, RelaysBlock, BlockFaultOf, IsDone, IsReadFailed, IsLeftUnread, IsWriteFailed, RunFaultOf}
use Rattle.asn1_relay_core.proofs.Feeding.{none_of_none}
use Rattle.asn1_relay_core.proofs.Known.{kept_added, kept_read}

-- ---- one block after another

-- All that was read is relayed as far as possible, and written; no call failed.
pub record RunSoFar (from to : Codec) (s : Schema) (limit : ℕ) (old now : Ends) (relay : Relaying) : Type 0 where
  pub got : List ℕ
  pub put : List ℕ
  pub number : ℕ
  pub moves : Moves old now got put
  pub relays : Relays (rules_of from) (rules_of to) s limit got number put relay.unread None
  pub is : relay ≡ record { from = from; to = to; limit = limit; unread = relay.unread; number = capped number; failed = false }
  pub fails : Fails old now 0 0

module _ (from to : Codec) (s : Schema) (limit : ℕ) where
  abbrev source : Rules
  source = rules_of from

  abbrev target : Rules
  target = rules_of to

  pub run_begun : (old : Ends) (relay : Relaying) → relay ≡ record { from = from; to = to; limit = limit; unread = []; number = 0; failed = false } → RunSoFar from to s limit old old relay
  run_begun old relay e =
      let u : relay.unread ≡ [] = ap (λ r. r.unread) e in
      let r : Relays source target s limit [] 0 [] [] None = record { messages = []; counted = refl; front = (refl, refl); stops = (none_of_none source s limit, inl refl) } in
      record {
        got = [];
        put = [];
        number = 0;
        moves = record { reads = Consumes-nil old.coming; writes = Appends-nil old.taken };
        relays =
            subst (λ w. Relays source target s limit [] 0 [] w None) (sym u) r;
        is = e ∙
            ap (λ w. record { from = from; to = to; limit = limit; unread = w; number = 0; failed = false }) (sym u);
        fails = record { of_reader = omega arith; of_writer = omega arith };
      }

  module _ (old now : Ends) (relay : Relaying) (h : RunSoFar from to s limit old now relay) where
    abbrev Here : (Rules → Rules → ℕ → Type 0) → Relaying → Type 0
    Here P r = P (rules_of r.from) (rules_of r.to) r.limit

    here : (P : Rules → Rules → ℕ → Type 0) → Here P relay → P source target limit
    here P p = subst (Here P) h.is p

    counts : relay.number ≡ capped h.number
    counts = ap (λ r. r.number) h.is

    -- another block is read
    reads_more : (next : Ends) (octets : List ℕ) → Consumes now.coming next.coming octets → Consumes old.coming next.coming (h.got ++ octets)
    reads_more next octets c = Consumes-trans old.coming now.coming next.coming h.got octets h.moves.reads c

    writes_more : (next : Ends) (put : List ℕ) → Appends now.taken next.taken put → Appends old.taken next.taken (h.put ++ put)
    writes_more next put a = Appends-trans old.taken now.taken next.taken h.put put h.moves.writes a

    pub run_further : (next : Ends) (after : Relaying) (octets : List ℕ) → Consumes now.coming next.coming octets →
        RelaysBlock s relay after octets now.taken next.taken → next.reads_failed ≡ now.reads_failed → next.writes_failed ≡ now.writes_failed → RunSoFar from to s limit old next after
    run_further next after octets c b f w =
        let r : Relays source target s limit (relay.unread ++ octets) b.count b.put after.unread None =
        here (λ x y l. Relays x y s l (relay.unread ++ octets) b.count b.put after.unread None) b.relays in
        let g = goes_on source target s limit h.got octets h.number b.count h.put b.put relay.unread after.unread None h.relays r in
        let n : capped (relay.number + b.count) ≡ capped (h.number + b.count) = let k = counts in omega arith in
        let rf = h.fails.of_reader in
        let wf = h.fails.of_writer in
        record {
          got = h.got ++ octets;
          put = h.put ++ b.put;
          number = h.number + b.count;
          moves =
              record { reads = reads_more next octets c; writes = writes_more next b.put b.writes };
          relays = g;
          is = b.goes_on ∙
              (ap (λ r. onwards r after.unread (capped (relay.number + b.count)) false) h.is ∙
              ap (λ i. record { from = from; to = to; limit = limit; unread = after.unread; number = i; failed = false }) n);
          fails = record { of_reader = omega arith; of_writer = omega arith };
        }

    -- ---- the ends of a run

    pub run_read_failed : (next : Ends) → Keeps now.coming next.coming → next.taken ≡ now.taken → next.reads_failed ≡ now.reads_failed + 1 →
        next.writes_failed ≡ now.writes_failed → IsReadFailed source target s limit old next
    run_read_failed next c t f w =
        let rf = h.fails.of_reader in
        let wf = h.fails.of_writer in
        let got : Consumes old.coming next.coming h.got = subst (λ l. Consumes old.coming next.coming l) (append-nil h.got) (reads_more next [] (kept_read now.coming next.coming c)) in
        record {
          got = h.got;
          put = h.put;
          number = h.number;
          rest = relay.unread;
          moves =
              record { reads = got; writes = subst (λ x. Appends old.taken x h.put) (sym t) h.moves.writes };
          relays = h.relays;
          fails = record { of_reader = omega arith; of_writer = omega arith };
        }

    pub run_block_failed : (next : Ends) (octets : List ℕ) (fault : RunFault) → length octets ≤ block → Consumes now.coming next.coming octets →
        next.reads_failed ≡ now.reads_failed → BlockFaultOf s relay octets now.taken next.taken now.writes_failed next.writes_failed fault → RunFaultOf source target s limit old next fault
    run_block_failed next octets run.Read short c f b = absurd b
    run_block_failed next octets run.Write short c f b =
        let p = b.0 in
        let k = b.1 in
        let rf = h.fails.of_reader in
        let wf = h.fails.of_writer in
        let r : RelaysFront source target s limit p.messages p.whole p.rest (relay.unread ++ octets) = here (λ x y l. RelaysFront x y s l p.messages p.whole p.rest (relay.unread ++ octets)) p.front in
        let j = joins source target s limit h.relays.messages p.messages h.put p.whole (relay.unread ++ octets) p.rest (h.got ++ octets)
        (longer source target s limit h.relays.messages h.put relay.unread h.got octets h.relays.front) r in
        let w = p.writes in
        record {
          early = h.got;
          last = octets;
          put = h.put ++ w.0;
          rest = p.rest;
          messages = h.relays.messages ++ p.messages;
          whole =
              h.put ++ p.whole;
          unwritten = w.1;
          moves = record { reads = reads_more next octets c; writes = writes_more next w.0 w.3 };
          front =
              j;
          begins = append_assoc h.put w.0 w.1 ∙ ap (λ l. h.put ++ l) w.2;
          short = short;
          number = h.number;
          out = h.put;
          unread =
              relay.unread;
          further = w.0;
          relays = h.relays;
          has_all = refl;
          fails = record { of_reader = omega arith; of_writer = omega arith };
        }
    run_block_failed next octets (run.Relay fault) short c f b =
        let p = b.0 in
        let k = b.1 in
        let rf = h.fails.of_reader in
        let wf = h.fails.of_writer in
        let r : Relays source target s limit (relay.unread ++ octets) p.count p.put p.rest (Some p.why) =
        here (λ x y l. Relays x y s l (relay.unread ++ octets) p.count p.put p.rest (Some p.why)) p.relays in
        let n : capped (relay.number + p.count) ≡ capped (h.number + p.count) = let q = counts in omega arith in
        inl (record {
          got = h.got ++ octets;
          put = h.put ++ p.put;
          number = h.number + p.count;
          rest = p.rest;
          why = p.why;
          moves =
              record { reads = reads_more next octets c; writes = writes_more next p.put p.writes };
          relays =
              goes_on source target s limit h.got octets h.number p.count h.put p.put relay.unread p.rest (Some p.why) h.relays r;
          is = p.is ∙
              ap (λ i. record { number = i; kind = kind_of_stop p.why }) n;
          fails = record { of_reader = omega arith; of_writer = omega arith };
        })
    run_block_failed next octets run.Memory short c f b =
        let p = b.0 in
        let k = b.1 in
        let rf = h.fails.of_reader in
        let wf = h.fails.of_writer in
        let r : RelaysFront source target s limit p.messages p.put p.rest (relay.unread ++ octets) = here (λ x y l. RelaysFront x y s l p.messages p.put p.rest (relay.unread ++ octets)) p.front in
        record {
          got = h.got ++ octets;
          put = h.put ++ p.put;
          rest = p.rest;
          messages = h.relays.messages ++ p.messages;
          moves =
              record { reads = reads_more next octets c; writes = writes_more next p.put p.writes };
          front =
              joins source target s limit h.relays.messages p.messages h.put p.put (relay.unread ++ octets) p.rest (h.got ++ octets)
              (longer source target s limit h.relays.messages h.put relay.unread h.got octets h.relays.front) r;
          fails = record { of_reader = omega arith; of_writer = omega arith };
        }

    -- the reader reports its end
    module _ (next : Ends) (c : Consumes now.coming next.coming []) (ended : IsAtEnd next.coming) (f : next.reads_failed ≡ now.reads_failed) where
      all_read : Consumes old.coming next.coming h.got
      all_read = subst (λ l. Consumes old.coming next.coming l) (append-nil h.got) (reads_more next [] c)

      pub run_left_unread : (fault : RelayFault) → next.taken ≡ now.taken → next.writes_failed ≡ now.writes_failed → relay.unread ≢ [] →
          fault ≡ end_fault relay → IsLeftUnread source target s limit old next fault
      run_left_unread fault t w n e =
          let rf = h.fails.of_reader in
          let wf = h.fails.of_writer in
          record {
            got = h.got;
            put = h.put;
            number = h.number;
            rest = relay.unread;
            moves =
                record { reads = all_read; writes = subst (λ x. Appends old.taken x h.put) (sym t) h.moves.writes };
            ends = ended;
            relays =
                h.relays;
            some_left = n;
            is = e ∙ ap end_fault h.is;
            fails = record { of_reader = omega arith; of_writer = omega arith };
          }

      pub run_done : relay.unread ≡ [] → Keeps now.taken next.taken → next.writes_failed ≡ now.writes_failed → IsDone source target s limit old next
      run_done e k w =
          let rf = h.fails.of_reader in
          let wf = h.fails.of_writer in
          let put : Appends old.taken next.taken h.put = subst (λ l. Appends old.taken next.taken l) (append-nil h.put) (writes_more next [] (kept_added now.taken next.taken k)) in
          record {
            got = h.got;
            put = h.put;
            number = h.number;
            moves = record { reads = all_read; writes = put };
            ends = ended;
            relays =
                subst (λ x. Relays source target s limit h.got h.number h.put x None) e h.relays;
            fails = record { of_reader = omega arith; of_writer = omega arith };
          }

      pub run_not_flushed : Keeps now.taken next.taken → next.writes_failed ≡ now.writes_failed + 1 → IsWriteFailed source target s limit old next
      run_not_flushed k w =
          let rf = h.fails.of_reader in
          let wf = h.fails.of_writer in
          let put : Appends old.taken next.taken h.put = subst (λ l. Appends old.taken next.taken l) (append-nil h.put) (writes_more next [] (kept_added now.taken next.taken k)) in
          let front : RelaysFront source target s limit h.relays.messages h.put relay.unread (h.got ++ []) =
          subst (λ l. RelaysFront source target s limit h.relays.messages h.put relay.unread l) (sym (append-nil h.got)) h.relays.front in
          record {
            early = h.got;
            last = [];
            put = h.put;
            rest = relay.unread;
            messages = h.relays.messages;
            whole = h.put;
            unwritten = [];
            moves =
                record { reads = subst (λ l. Consumes old.coming next.coming l) (sym (append-nil h.got)) all_read; writes = put };
            front =
                front;
            begins = append-nil h.put;
            short = omega arith;
            number = h.number;
            out = h.put;
            unread = relay.unread;
            further = [];
            relays =
                h.relays;
            has_all = append-nil h.put;
            fails = record { of_reader = omega arith; of_writer = omega arith };
          }
