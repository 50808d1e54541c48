mod LimitCalls
mod WipeCalls
